use Rattle.std.proofs.Common.{◌≡◌, ◌++◌, ℤ, List, map, ap, sym, subst, ◌∙◌}
use Rattle.std.proofs.lemmas.Int.{to_z-of_z}
use mir.Val.{SFits, to_z, of_z}
use mir.Syntax.{w64}
use Rattle.expr.specs.Terms.{term_of}
use Rattle.bounds.specs.Cut.{occurrences}
use Rattle.descent.specs.declared.readers.Reader.{Reader}
use Rattle.descent.specs.Held.{shown}
use Rattle.descent.specs.Readers.{reader_of, AreReadersOf}
use Rattle.descent.specs.Sums.{count_of}
use Rattle.descent.proofs.ReaderLaws.{readers-are}
use Rattle.descent.proofs.readers.readers_of.Goals as goal

pub returns : goal.returns
returns g c =
    let cut = shown c.args.tables.now in
    let t = term_of c.args.t.now in
    let f : SFits w64 c.args.first = c.ranges.first in
    let e : c.put_readers.new.readers.items ≡ map (reader_of cut) (occurrences t c.args.first) = c.in_ok-put_readers.ensures
    ∙ ap (λ (xs : List Reader). xs ++ map (reader_of cut) (occurrences t (to_z w64 (of_z w64 c.args.first)))) c.new-readers.ensures.items
    ∙ ap (λ (z : ℤ). map (reader_of cut) (occurrences t z)) (to_z-of_z w64 c.args.first f) in
    λ s h. subst (λ (rs : List Reader). AreReadersOf cut t c.args.first (count_of cut s) rs) (sym e) (readers-are cut s t c.args.first h)
