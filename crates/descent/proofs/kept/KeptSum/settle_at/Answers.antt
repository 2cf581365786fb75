use Rattle.std.proofs.Common.{◌≡◌, ℕ, ◌<◌, ℤ, get_or, List, length, set, SFits, sym, ap, subst, ◌∙◌, rules}
use Rattle.std.specs.Int.{w64, w128}
use mir.Val.{to_z, of_z}
use Rattle.std.proofs.lemmas.Int.{to_z-of_z}
use Rattle.semantics.specs.Measures.{names_in}
use Rattle.expr.specs.Terms.{term_of}
use Rattle.tops.specs.Tops.{number}
use Rattle.descent.specs.declared.readers.Reader.{Reader}
use Rattle.descent.specs.Cells.{offset_of}
use Rattle.descent.specs.Held.{shown}
use Rattle.descent.specs.Kept.{IsSaid}
use Rattle.descent.specs.Said.{AllStay, AreRead}
use Rattle.descent.proofs.PieceSteps.{can-estimate, cut-read, is-cut-off, settled-at}
use Rattle.descent.specs.KeptSums.{numbers_at}
use Rattle.descent.proofs.kept.KeptSum.settle_at.Goals as goal

pub say-requires-clause-read : goal.say-requires-clause-read
say-requires-clause-read g c =
    let k = c.cut_off-len.new.self in
    let cut = shown c.args.tables.now in
    let t = term_of c.args.t.now in
    let e = c.cut_off-len.ensures in
    let is = is-cut-off cut t c.args.self.now k c.args.c c.cut_off-len.result c.requires.say c.requires.shaped c.requires.piece e.trimmed e.count e.some e.length e.same in
    let f : SFits w64 k.first = search rules in (
      is.say.sum,
      subst (λ (l : ℤ). AreRead cut is.say.sum t l c.as_slice-readers.result.now c.offset-from.result c.cut_off-len.result) (sym (to_z-of_z w64 k.first f))
          (subst (λ (rs : List Reader). AreRead cut is.say.sum t k.first rs c.offset-from.result c.cut_off-len.result) (sym c.as_slice-readers.ensures.value)
          (subst (λ from. AreRead cut is.say.sum t k.first k.readers.items from c.cut_off-len.result) (sym c.offset-from.ensures) (cut-read cut t c.args.self.now k c.args.c c.cut_off-len.result is))),
    )

pub say-requires-clause-still : goal.say-requires-clause-still
say-requires-clause-still g c =
    let k = c.cut_off-len.new.self in
    let cut = shown c.args.tables.now in
    let n = c.cut_off-len.result in
    subst (λ (rs : List Reader). AllStay cut rs c.offset-from.result n) (sym c.as_slice-readers.ensures.value)
    (subst (λ from. AllStay cut k.readers.items from n) (sym c.offset-from.ensures) c.cut_off-len.ensures.still)

pub put_weights-requires-clause-can : goal.put_weights-requires-clause-can
put_weights-requires-clause-can g c =
    let k = c.cut_off-len.new.self in
    let cut = shown c.args.tables.now in
    let t = term_of c.args.t.now in
    let e = c.cut_off-len.ensures in
    let is = is-cut-off cut t c.args.self.now k c.args.c c.cut_off-len.result c.requires.say c.requires.shaped c.requires.piece e.trimmed e.count e.some e.length e.same in
    let f : SFits w128 c.in_ok-estimate.estimate = search rules in
    let put : c.put.new.self ≡ set k.estimates c.args.c c.in_ok-estimate.estimate = c.put.ensures ∙ ap (λ (v : ℤ). set k.estimates c.args.c v) (to_z-of_z w128 c.in_ok-estimate.estimate f) in
    can-estimate cut t k c.args.c c.in_ok-estimate.estimate c.put.new.self is.shaped is.piece put

pub returns-clause-shaped : goal.returns-clause-shaped
returns-clause-shaped g c =
    let old = c.args.self.now in
    let k = c.cut_off-len.new.self in
    let at = c.args.c in
    let n = c.cut_off-len.result in
    let cut = shown c.args.tables.now in
    let t = term_of c.args.t.now in
    let ws = c.say.new.room.weights.items in
    let e = c.cut_off-len.ensures in
    let estimate = c.in_ok-estimate.estimate in
    let is = is-cut-off cut t old k at n c.requires.say c.requires.shaped c.requires.piece e.trimmed e.count e.some e.length e.same in
    let f : SFits w128 estimate = search rules in
    let l : SFits w64 k.first = search rules in
    let put : c.put.new.self ≡ set k.estimates at estimate = c.put.ensures ∙ ap (λ (v : ℤ). set k.estimates at v) (to_z-of_z w128 estimate f) in
    let said : IsSaid cut t (to_z w64 (of_z w64 k.first)) c.offset-from.result n estimate (λ o. get_or ws o 0) = c.in_ok-estimate.ensures.said in
    let said-there : IsSaid cut t k.first (offset_of k.cells at) n estimate (λ o. get_or ws o 0) =
    subst (λ (z : ℤ). IsSaid cut t z (offset_of k.cells at) n estimate (λ o. get_or ws o 0)) (to_z-of_z w64 k.first l) (subst (λ from. IsSaid cut t (to_z w64 (of_z w64 k.first)) from n estimate (λ o. get_or ws o 0)) c.offset-from.ensures said) in
    let count : length ws ≡ names_in t = c.in_ok-estimate.ensures.room.weights in
    let here : (o : ℕ) → o < length ws → number (numbers_at c.put_weights.new.self.weights.items o) at ≡ get_or ws o 0 = subst (λ (xs : List ℕ). (o : ℕ) → o < length xs → number (numbers_at c.put_weights.new.self.weights.items o) at ≡ get_or xs o 0) c.weights.ensures c.put_weights.ensures.here in
    let all = settled-at cut t old k c.put_weights.new.self at n estimate ws c.put.new.self is c.requires.piece put said-there e.still count c.put_weights.ensures.can here c.put_weights.ensures.others c.put_weights.ensures.same in
    all.shaped

pub returns-clause-piece : goal.returns-clause-piece
returns-clause-piece g c =
    let old = c.args.self.now in
    let k = c.cut_off-len.new.self in
    let at = c.args.c in
    let n = c.cut_off-len.result in
    let cut = shown c.args.tables.now in
    let t = term_of c.args.t.now in
    let ws = c.say.new.room.weights.items in
    let e = c.cut_off-len.ensures in
    let estimate = c.in_ok-estimate.estimate in
    let is = is-cut-off cut t old k at n c.requires.say c.requires.shaped c.requires.piece e.trimmed e.count e.some e.length e.same in
    let f : SFits w128 estimate = search rules in
    let l : SFits w64 k.first = search rules in
    let put : c.put.new.self ≡ set k.estimates at estimate = c.put.ensures ∙ ap (λ (v : ℤ). set k.estimates at v) (to_z-of_z w128 estimate f) in
    let said : IsSaid cut t (to_z w64 (of_z w64 k.first)) c.offset-from.result n estimate (λ o. get_or ws o 0) = c.in_ok-estimate.ensures.said in
    let said-there : IsSaid cut t k.first (offset_of k.cells at) n estimate (λ o. get_or ws o 0) =
    subst (λ (z : ℤ). IsSaid cut t z (offset_of k.cells at) n estimate (λ o. get_or ws o 0)) (to_z-of_z w64 k.first l) (subst (λ from. IsSaid cut t (to_z w64 (of_z w64 k.first)) from n estimate (λ o. get_or ws o 0)) c.offset-from.ensures said) in
    let count : length ws ≡ names_in t = c.in_ok-estimate.ensures.room.weights in
    let here : (o : ℕ) → o < length ws → number (numbers_at c.put_weights.new.self.weights.items o) at ≡ get_or ws o 0 = subst (λ (xs : List ℕ). (o : ℕ) → o < length xs → number (numbers_at c.put_weights.new.self.weights.items o) at ≡ get_or xs o 0) c.weights.ensures c.put_weights.ensures.here in
    let all = settled-at cut t old k c.put_weights.new.self at n estimate ws c.put.new.self is c.requires.piece put said-there e.still count c.put_weights.ensures.can here c.put_weights.ensures.others c.put_weights.ensures.same in
    all.piece

pub returns-clause-right : goal.returns-clause-right
returns-clause-right g c =
    let old = c.args.self.now in
    let k = c.cut_off-len.new.self in
    let at = c.args.c in
    let n = c.cut_off-len.result in
    let cut = shown c.args.tables.now in
    let t = term_of c.args.t.now in
    let ws = c.say.new.room.weights.items in
    let e = c.cut_off-len.ensures in
    let estimate = c.in_ok-estimate.estimate in
    let is = is-cut-off cut t old k at n c.requires.say c.requires.shaped c.requires.piece e.trimmed e.count e.some e.length e.same in
    let f : SFits w128 estimate = search rules in
    let l : SFits w64 k.first = search rules in
    let put : c.put.new.self ≡ set k.estimates at estimate = c.put.ensures ∙ ap (λ (v : ℤ). set k.estimates at v) (to_z-of_z w128 estimate f) in
    let said : IsSaid cut t (to_z w64 (of_z w64 k.first)) c.offset-from.result n estimate (λ o. get_or ws o 0) = c.in_ok-estimate.ensures.said in
    let said-there : IsSaid cut t k.first (offset_of k.cells at) n estimate (λ o. get_or ws o 0) =
    subst (λ (z : ℤ). IsSaid cut t z (offset_of k.cells at) n estimate (λ o. get_or ws o 0)) (to_z-of_z w64 k.first l) (subst (λ from. IsSaid cut t (to_z w64 (of_z w64 k.first)) from n estimate (λ o. get_or ws o 0)) c.offset-from.ensures said) in
    let count : length ws ≡ names_in t = c.in_ok-estimate.ensures.room.weights in
    let here : (o : ℕ) → o < length ws → number (numbers_at c.put_weights.new.self.weights.items o) at ≡ get_or ws o 0 = subst (λ (xs : List ℕ). (o : ℕ) → o < length xs → number (numbers_at c.put_weights.new.self.weights.items o) at ≡ get_or xs o 0) c.weights.ensures c.put_weights.ensures.here in
    let all = settled-at cut t old k c.put_weights.new.self at n estimate ws c.put.new.self is c.requires.piece put said-there e.still count c.put_weights.ensures.can here c.put_weights.ensures.others c.put_weights.ensures.same in
    all.right

pub returns-clause-others : goal.returns-clause-others
returns-clause-others g c =
    let old = c.args.self.now in
    let k = c.cut_off-len.new.self in
    let at = c.args.c in
    let n = c.cut_off-len.result in
    let cut = shown c.args.tables.now in
    let t = term_of c.args.t.now in
    let ws = c.say.new.room.weights.items in
    let e = c.cut_off-len.ensures in
    let estimate = c.in_ok-estimate.estimate in
    let is = is-cut-off cut t old k at n c.requires.say c.requires.shaped c.requires.piece e.trimmed e.count e.some e.length e.same in
    let f : SFits w128 estimate = search rules in
    let l : SFits w64 k.first = search rules in
    let put : c.put.new.self ≡ set k.estimates at estimate = c.put.ensures ∙ ap (λ (v : ℤ). set k.estimates at v) (to_z-of_z w128 estimate f) in
    let said : IsSaid cut t (to_z w64 (of_z w64 k.first)) c.offset-from.result n estimate (λ o. get_or ws o 0) = c.in_ok-estimate.ensures.said in
    let said-there : IsSaid cut t k.first (offset_of k.cells at) n estimate (λ o. get_or ws o 0) =
    subst (λ (z : ℤ). IsSaid cut t z (offset_of k.cells at) n estimate (λ o. get_or ws o 0)) (to_z-of_z w64 k.first l) (subst (λ from. IsSaid cut t (to_z w64 (of_z w64 k.first)) from n estimate (λ o. get_or ws o 0)) c.offset-from.ensures said) in
    let count : length ws ≡ names_in t = c.in_ok-estimate.ensures.room.weights in
    let here : (o : ℕ) → o < length ws → number (numbers_at c.put_weights.new.self.weights.items o) at ≡ get_or ws o 0 = subst (λ (xs : List ℕ). (o : ℕ) → o < length xs → number (numbers_at c.put_weights.new.self.weights.items o) at ≡ get_or xs o 0) c.weights.ensures c.put_weights.ensures.here in
    let all = settled-at cut t old k c.put_weights.new.self at n estimate ws c.put.new.self is c.requires.piece put said-there e.still count c.put_weights.ensures.can here c.put_weights.ensures.others c.put_weights.ensures.same in
    all.others

pub returns-clause-same : goal.returns-clause-same
returns-clause-same g c =
    let old = c.args.self.now in
    let k = c.cut_off-len.new.self in
    let at = c.args.c in
    let n = c.cut_off-len.result in
    let cut = shown c.args.tables.now in
    let t = term_of c.args.t.now in
    let ws = c.say.new.room.weights.items in
    let e = c.cut_off-len.ensures in
    let estimate = c.in_ok-estimate.estimate in
    let is = is-cut-off cut t old k at n c.requires.say c.requires.shaped c.requires.piece e.trimmed e.count e.some e.length e.same in
    let f : SFits w128 estimate = search rules in
    let l : SFits w64 k.first = search rules in
    let put : c.put.new.self ≡ set k.estimates at estimate = c.put.ensures ∙ ap (λ (v : ℤ). set k.estimates at v) (to_z-of_z w128 estimate f) in
    let said : IsSaid cut t (to_z w64 (of_z w64 k.first)) c.offset-from.result n estimate (λ o. get_or ws o 0) = c.in_ok-estimate.ensures.said in
    let said-there : IsSaid cut t k.first (offset_of k.cells at) n estimate (λ o. get_or ws o 0) =
    subst (λ (z : ℤ). IsSaid cut t z (offset_of k.cells at) n estimate (λ o. get_or ws o 0)) (to_z-of_z w64 k.first l) (subst (λ from. IsSaid cut t (to_z w64 (of_z w64 k.first)) from n estimate (λ o. get_or ws o 0)) c.offset-from.ensures said) in
    let count : length ws ≡ names_in t = c.in_ok-estimate.ensures.room.weights in
    let here : (o : ℕ) → o < length ws → number (numbers_at c.put_weights.new.self.weights.items o) at ≡ get_or ws o 0 = subst (λ (xs : List ℕ). (o : ℕ) → o < length xs → number (numbers_at c.put_weights.new.self.weights.items o) at ≡ get_or xs o 0) c.weights.ensures c.put_weights.ensures.here in
    let all = settled-at cut t old k c.put_weights.new.self at n estimate ws c.put.new.self is c.requires.piece put said-there e.still count c.put_weights.ensures.can here c.put_weights.ensures.others c.put_weights.ensures.same in
    all.same
