use Rattle.std.proofs.Common.{◌≡◌, ◌<◌, ◌+◌, ◌∷◌, [], suc, List, length, take, take_all, sym, subst, arith}
use Rattle.std.specs.List.{All}
use Rattle.std.proofs.lemmas.List.Elements.{All-nil, All-cons, All-append}
use Rattle.descent.specs.Rows.{Track, with_rows}
use Rattle.descent.specs.Held.{Held, row_in, shown}
use Rattle.descent.specs.Sound.{IsSoundTrack}
use Rattle.descent.proofs.Going.{shown-more}
use Rattle.descent.proofs.keeping.are_sound.Goals as goal

pub loop-i-preserved : goal.loop-i-preserved
loop-i-preserved g c =
    let ts = c.args.tables.now in
    let i = c.loop-i.i in
    let t = c.index-tables-i.result in
    let lt : i < length ts = omega arith in
    let next : i + 1 ≡ suc i = omega arith in
    let more = shown-more ts i t lt c.index-tables-i.is in
    rw next (subst (All IsSoundTrack) (sym more) (All-append IsSoundTrack (shown (take i ts)) (with_rows row_in t ∷ []) c.loop-i.invariant (All-cons IsSoundTrack (with_rows row_in t) [] c.blocks-in-loop-i.ensures.sound (All-nil IsSoundTrack))))

pub returns : goal.returns
returns g c = subst (λ (us : List (Track (Held g.row.I.Denot))). All IsSoundTrack (shown us)) (take_all c.loop-i.i c.args.tables.now c.loop-i-test.false) c.loop-i.invariant
