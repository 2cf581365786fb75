use Rattle.std.proofs.Common.{◌∙◌, inr, arith}
use Rattle.std.proofs.lemmas.Result.{err_from_is_err_and}
use Rattle.store_file.proofs.DecodedLaws.{header-read, refused-entries, measured, read-length, read-behind, room-behind}
use Rattle.store_file.proofs.decoding.read_store.Goals as goal

pub header_len-header-requires : goal.header_len-header-requires
header_len-header-requires c =
    (header-read c.args.bytes.now c.in_ok-fixed.fixed _ _ (λ i. omega (arith, c.type_inv.bytes i)) c.in_ok-fixed.ensures.long c.in_ok-fixed.ensures.ok c.in_ok-entries.ensures.ok c.deref.ensures.value).few

pub trees_len-requires-clause-few : goal.trees_len-requires-clause-few
trees_len-requires-clause-few c =
    (header-read c.args.bytes.now c.in_ok-fixed.fixed _ _ (λ i. omega (arith, c.type_inv.bytes i)) c.in_ok-fixed.ensures.long c.in_ok-fixed.ensures.ok c.in_ok-entries.ensures.ok c.deref-2.ensures.value).few

pub trees_len-requires-clause-short : goal.trees_len-requires-clause-short
trees_len-requires-clause-short c =
    (header-read c.args.bytes.now c.in_ok-fixed.fixed _ _ (λ i. omega (arith, c.type_inv.bytes i)) c.in_ok-fixed.ensures.long c.in_ok-fixed.ensures.ok c.in_ok-entries.ensures.ok c.deref-2.ensures.value).short

pub returns-in_err-entries-clause-err : goal.returns-in_err-entries-clause-err
returns-in_err-entries-clause-err c =
    let p = err_from_is_err_and c.from_residual-in_err-entries.result c.from_residual-in_err-entries.ensures.1 in
    rw (p.1, p.2) (refused-entries c.args.bytes.now c.in_ok-fixed.fixed _ c.in_ok-fixed.ensures.long c.in_ok-fixed.ensures.ok c.in_err-entries.ensures.err)

pub returns-then-bytes-header-clause-err : goal.returns-then-bytes-header-clause-err
returns-then-bytes-header-clause-err c =
    let sizes = measured c.in_ok-entries.entries.items _ _ _ _ c.deref.ensures.value c.deref-2.ensures.value c.header_len-header.ensures.value c.trees_len.ensures.value in
    inr (read-length c.args.bytes.now c.in_ok-fixed.fixed _ c.header_len-header.result c.trees_len.result c.in_ok-fixed.ensures.long c.in_ok-fixed.ensures.ok c.in_ok-entries.ensures.ok sizes c.if-bytes-header.true)

pub behind-requires : goal.behind-requires
behind-requires c = omega (arith, c.if-bytes-header.false)

pub read_series-requires : goal.read_series-requires
read_series-requires c =
    let known = header-read c.args.bytes.now c.in_ok-fixed.fixed _ _ (λ i. omega (arith, c.type_inv.bytes i)) c.in_ok-fixed.ensures.long c.in_ok-fixed.ensures.ok c.in_ok-entries.ensures.ok c.deref-3.ensures.value in
    let sizes = measured c.in_ok-entries.entries.items _ _ _ _ c.deref.ensures.value c.deref-2.ensures.value c.header_len-header.ensures.value c.trees_len.ensures.value in
    record {
      scale = known.scale;
      degree = known.degree;
      few = known.few;
      names = known.names;
      short = known.short;
      room = room-behind c.args.bytes.now c.behind.result.now _ _ _ _ sizes c.if-bytes-header.false c.deref-3.ensures.value c.behind.ensures;
    }

pub returns-in_err-store-clause-err : goal.returns-in_err-store-clause-err
returns-in_err-store-clause-err c =
    let sizes = measured c.in_ok-entries.entries.items _ _ _ _ c.deref.ensures.value c.deref-2.ensures.value c.header_len-header.ensures.value c.trees_len.ensures.value in
    let whole = read-behind c.args.bytes.now c.behind.result.now c.in_ok-fixed.fixed _ c.deref-3.result.now c.header_len-header.result c.trees_len.result c.in_ok-fixed.ensures.long c.in_ok-fixed.ensures.ok c.in_ok-entries.ensures.ok sizes c.if-bytes-header.false c.deref-3.ensures.value c.behind.ensures in
    let p = err_from_is_err_and c.from_residual-in_err-store.result c.from_residual-in_err-store.ensures.1 in
    rw (p.1, p.2) (rw whole c.in_err-store.ensures.err)

pub returns-clause-ok : goal.returns-clause-ok
returns-clause-ok c =
    let sizes = measured c.in_ok-entries.entries.items _ _ _ _ c.deref.ensures.value c.deref-2.ensures.value c.header_len-header.ensures.value c.trees_len.ensures.value in
    read-behind c.args.bytes.now c.behind.result.now c.in_ok-fixed.fixed _ c.deref-3.result.now c.header_len-header.result c.trees_len.result c.in_ok-fixed.ensures.long c.in_ok-fixed.ensures.ok c.in_ok-entries.ensures.ok sizes c.if-bytes-header.false c.deref-3.ensures.value c.behind.ensures
    ∙ c.in_ok-store.ensures.ok
