use Rattle.std.proofs.Common.{◌≡◌, List, ℕ, [], ◌++◌, length, drop, arith, append-nil, ap, ◌∙◌}
use Rattle.std.specs.Int.{w128}
use Rattle.std.proofs.lemmas.Int.{to_z-of_z}
use Rattle.std.proofs.lemmas.List.{drop_all}
use Rattle.byteorder.specs.Endian.{big_bytes, low_bytes}
use Rattle.tree_file.specs.Bytes.{bytes_of}
use Rattle.tree_file.proofs.SignedLaws.{low_bytes-wrapped}
use Rattle.tree_file.proofs.numbers.put_signed.Goals as goal

pub returns : goal.returns
unfolding bytes_of
returns c =
    let n = length c.args.into.now in
    let written : List ℕ = big_bytes n (low_bytes w128 n c.args.v) in
    let gone : drop n c.args.into.now ≡ [] = drop_all n c.args.into.now (omega arith) in
    let put : c.write_int128.new.buf ≡ written ++ drop n c.args.into.now = rw (to_z-of_z w128 c.args.v c.ranges.v) at c.write_int128.ensures in
    put ∙ ap (λ q. written ++ q) gone ∙ append-nil written ∙ ap (bytes_of n) (low_bytes-wrapped n c.args.v c.requires.some c.requires.few c.requires.fits)
