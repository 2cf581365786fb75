use Rattle.std.proofs.Common.{arith}
use Rattle.store_file.proofs.DecodedLaws.{read-stands, read-store, read-found}
use Rattle.store_file.proofs.decoding.decode.Goals as goal

pub returns-clause-stands : goal.returns-clause-stands
returns-clause-stands c = read-stands c.args.bytes.now c.read_store.result (λ i. omega (arith, c.type_inv.bytes i)) c.read_store.ensures.ok

pub returns-clause-store : goal.returns-clause-store
returns-clause-store c = read-store c.args.bytes.now c.read_store.result (λ i. omega (arith, c.type_inv.bytes i)) c.read_store.ensures.ok

pub returns-clause-found : goal.returns-clause-found
returns-clause-found c = read-found c.args.bytes.now c.read_store.result c.read_store.ensures.ok c.read_store.ensures.err
