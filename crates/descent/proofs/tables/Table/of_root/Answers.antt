use Rattle.std.proofs.lemmas.List.{length-set, length-replicate}
use Rattle.std.specs.Prelude.{replicate, Option}
use Rattle.std.proofs.Common.{◌≡◌, ℕ, refl, subst, Some, set, length, ap, sym, ◌∙◌, map, List, [], ◌∷◌, None, arith}
use Rattle.descent.specs.declared.tables.Row.{Row}
use Rattle.descent.specs.Rows.{Track}
use Rattle.descent.specs.Held.{Held}
use Rattle.descent.specs.Laid.{blocks, held, present, AreOwned, IsWholeRoot, root_table}
use Rattle.descent.proofs.Owners.{owned-root}
use Rattle.descent.proofs.Places.{root-rows}
use Rattle.descent.proofs.SoundSteps.{root-sound, empty-sound}
use Rattle.descent.proofs.tables.Table.of_root.Goals as goal

pub invariant_of-result-2 : goal.invariant_of-result-2
invariant_of-result-2 g c =
    let w : IsWholeRoot c.args.len c.in-Some.node = rw c.in-Some.is at c.requires.whole in
    let row : Row g.row.I.Denot = record { id = c.in-Some.node.0; seg = c.in-Some.node.1; readings = None } in
    let e : c.div_ceil.result ≡ blocks c.args.len = omega (arith, c.div_ceil.ensures) in
    let r = root-rows c.args.len c.div_ceil.result row e w.some w.starts w.spans in
    let few = c.requires.few in
    let n : length (set (replicate c.div_ceil.result None) 0 (Some row)) ≡ c.div_ceil.result = length-set (replicate c.div_ceil.result None) 0 (Some row) ∙ length-replicate c.div_ceil.result None in
    let shown : present c.put_one.new.places ≡ row ∷ [] = rw (c.put_one.ensures, c.in_ok-places-2.ensures) r.1 in
    let rows = ap (λ (rs : List (Row g.row.I.Denot)). map held rs) shown in
    let same : c.div_ceil-2.result ≡ c.div_ceil.result = omega (arith, c.div_ceil.ensures, c.div_ceil-2.ensures) in
    let owners : c.in_ok-owners.owners.items ≡ replicate c.div_ceil.result 0 = c.in_ok-owners.ensures.items_if_clones_equal (λ y e. e) ∙ ap (λ (k : ℕ). replicate k 0) same in
    let own : c.div_ceil.result ≡ blocks row.seg.len = e ∙ ap blocks (sym w.spans) in
    let track : Track (Held g.row.I.Denot) = record { series = c.args.series; name = c.args.name; len = c.args.len; greatest = c.in-Some.node.1.d; rows = map held (present c.put_one.new.places) } in
    record { laid = rw (c.put_one.ensures, c.in_ok-places-2.ensures) r.0; few = rw (c.put_one.ensures, c.in_ok-places-2.ensures) (omega arith); owned = rw (c.put_one.ensures, c.in_ok-places-2.ensures) (subst (λ (os : List ℕ). AreOwned (set (replicate c.div_ceil.result None) 0 (Some row)) os) (sym owners) (owned-root c.div_ceil.result row own)); sound = root-sound track row rows refl few (rw w.spans w.some) w.starts w.spans w.sane }

pub returns : goal.returns
returns g c =
    let w : IsWholeRoot c.args.len c.in-Some.node = rw c.in-Some.is at c.requires.whole in
    let row : Row g.row.I.Denot = record { id = c.in-Some.node.0; seg = c.in-Some.node.1; readings = None } in
    let e : c.div_ceil.result ≡ blocks c.args.len = omega (arith, c.div_ceil.ensures) in
    let r = root-rows c.args.len c.div_ceil.result row e w.some w.starts w.spans in
    let rows : present c.put_one.new.places ≡ row ∷ [] = rw (c.put_one.ensures, c.in_ok-places-2.ensures) r.1 in
    ap (λ (rs : List (Row g.row.I.Denot)). let t : Track (Held g.row.I.Denot) = record { series = c.args.series; name = c.args.name; len = c.args.len; greatest = c.in-Some.node.1.d; rows = map held rs } in t) rows
    ∙ sym (ap (root_table c.args.series c.args.name c.args.len) c.in-Some.is)

pub invariant_of-result : goal.invariant_of-result
invariant_of-result g c =
    let len : c.args.len ≡ 0 = rw c.in_default.is at c.requires.whole in
    let e : c.in_ok-places.places ≡ [] = c.in_ok-places.ensures in
    let track : Track (Held g.row.I.Denot) = record { series = c.args.series; name = c.args.name; len = c.args.len; greatest = 0; rows = map held (present c.in_ok-places.places) } in
    record { laid = rw e tt; few = rw e (omega arith); owned = let o : c.new.result.items ≡ [] = c.new.ensures.items in rw (e, o) (record { count = refl; each = λ b lt. absurd (omega arith) }); sound = empty-sound track (ap (λ (xs : List (Option (Row g.row.I.Denot))). map held (present xs)) e) len }
