use Rattle.std.proofs.Common.{◌≡◌, ℕ, ◌+◌, ◌-◌, List, sym, ap, subst, ◌∙◌, arith}
use Rattle.std.specs.Prelude.{◌⊎◌}
use Rattle.std.proofs.lemmas.List.{get_or_default}
use Rattle.descent.specs.declared.readers.Reader.{Reader}
use Rattle.descent.specs.Cells.{begin_of, offset_of}
use Rattle.descent.specs.Held.{shown}
use Rattle.descent.specs.Said.{AllStay, AreRead, SomeComes}
use Rattle.descent.specs.Settled.{lens_of}
use Rattle.descent.proofs.CutSteps.{are-read, cut-at, cut-border, cut-size, piece-in}
use Rattle.descent.proofs.kept.KeptSum.cut_off.Goals as goal

pub stretch-len-requires : goal.stretch-len-requires
stretch-len-requires g c =
    let k = c.args.self.now in
    let at = c.args.c in
    let cut = shown c.args.tables.now in
    let say = c.requires.say.1 in
    let shaped = c.requires.say.2 in
    let lies = piece-in cut c.requires.say.0 k at shaped c.requires.piece in
    let e : lens_of k at ≡ c.get.result = get_or_default k.lens at 0 c.get.result lies.listed ∙ sym c.get.ensures in
    let u : c.offset-until.result ≡ offset_of k.cells (at + lens_of k at) = c.offset-until.ensures ∙ ap (λ m. offset_of k.cells (at + m)) (sym e) in
    let low = lies.low in
    let high = lies.high in
    let read : AreRead cut say.sum c.requires.say.0 k.first k.readers.items (offset_of k.cells at) (c.offset-until.result - offset_of k.cells at) = are-read cut c.requires.say.0 k at (c.offset-until.result - offset_of k.cells at) say shaped c.requires.piece (omega arith) (omega arith) in (
      say.sum,
      c.requires.say.0,
      k.first,
      subst (λ (rs : List Reader). AreRead cut say.sum c.requires.say.0 k.first rs c.offset-from.result (c.offset-until.result - c.offset-from.result)) (sym c.as_slice.ensures.value)
          (subst (λ f. AreRead cut say.sum c.requires.say.0 k.first k.readers.items f (c.offset-until.result - f)) (sym c.offset-from.ensures) read),
    )

pub cell_at-next-requires-clause-aligned : goal.cell_at-next-requires-clause-aligned
cell_at-next-requires-clause-aligned g c =
    let k = c.args.self.now in
    let at = c.args.c in
    let n = c.stretch-len.result in
    let shaped = c.requires.say.2 in
    let lies = piece-in (shown c.args.tables.now) c.requires.say.0 k at shaped c.requires.piece in
    let e : lens_of k at ≡ c.get.result = get_or_default k.lens at 0 c.get.result lies.listed ∙ sym c.get.ensures in
    let u : c.offset-until.result ≡ offset_of k.cells (at + lens_of k at) = c.offset-until.ensures ∙ ap (λ m. offset_of k.cells (at + m)) (sym e) in
    let ends : (n ≡ c.offset-until.result - c.offset-from.result) ⊎ SomeComes k.readers.items (c.offset-from.result + n) = subst (λ (rs : List Reader). (n ≡ c.offset-until.result - c.offset-from.result) ⊎ SomeComes rs (c.offset-from.result + n)) c.as_slice.ensures.value c.stretch-len.ensures.ends in
    let ends-there : (n ≡ c.offset-until.result - offset_of k.cells at) ⊎ SomeComes k.readers.items (offset_of k.cells at + n) = subst (λ f. (n ≡ c.offset-until.result - f) ⊎ SomeComes k.readers.items (f + n)) c.offset-from.ensures ends in
    subst (λ f. (f + n ≡ k.cells.count) ⊎ ((q : ℕ) × (f + n + k.cells.pad ≡ begin_of k.cells q))) (sym c.offset-from.ensures)
    (cut-border k at n (c.offset-until.result - offset_of k.cells at) shaped.can.read.cells shaped.aligned lies c.requires.piece (ap (λ m. m - offset_of k.cells at) u) ends-there)

pub trim-requires-clause-least : goal.trim-requires-clause-least
trim-requires-clause-least g c =
    let k = c.args.self.now in
    let at = c.args.c in
    let shaped = c.requires.say.2 in
    let lies = piece-in (shown c.args.tables.now) c.requires.say.0 k at shaped c.requires.piece in
    let e : lens_of k at ≡ c.get.result = get_or_default k.lens at 0 c.get.result lies.listed ∙ sym c.get.ensures in
    let u : c.offset-until.result ≡ offset_of k.cells (at + lens_of k at) = c.offset-until.ensures ∙ ap (λ m. offset_of k.cells (at + m)) (sym e) in
    let next : offset_of k.cells c.cell_at-next.result ≡ offset_of k.cells at + c.stretch-len.result = c.cell_at-next.ensures.offset ∙ ap (λ f. f + c.stretch-len.result) c.offset-from.ensures in
    let is = cut-at k at c.cell_at-next.result c.stretch-len.result shaped.can.read.cells lies c.cell_at-next.ensures.within next c.stretch-len.ensures.some (omega (arith, u, c.stretch-len.ensures.within, c.offset-from.ensures)) in
    omega (arith, is.high)

pub returns-clause-trimmed : goal.returns-clause-trimmed
returns-clause-trimmed g c =
    let k = c.args.self.now in
    let at = c.args.c in
    let shaped = c.requires.say.2 in
    let lies = piece-in (shown c.args.tables.now) c.requires.say.0 k at shaped c.requires.piece in
    let e : lens_of k at ≡ c.get.result = get_or_default k.lens at 0 c.get.result lies.listed ∙ sym c.get.ensures in
    let u : c.offset-until.result ≡ offset_of k.cells (at + lens_of k at) = c.offset-until.ensures ∙ ap (λ m. offset_of k.cells (at + m)) (sym e) in
    let next : offset_of k.cells c.cell_at-next.result ≡ offset_of k.cells at + c.stretch-len.result = c.cell_at-next.ensures.offset ∙ ap (λ f. f + c.stretch-len.result) c.offset-from.ensures in
    let is = cut-at k at c.cell_at-next.result c.stretch-len.result shaped.can.read.cells lies c.cell_at-next.ensures.within next c.stretch-len.ensures.some (omega (arith, u, c.stretch-len.ensures.within, c.offset-from.ensures)) in
    (c.cell_at-next.result - at, omega (arith, is.low), omega (arith, is.high), record { here = c.trim.ensures.trimmed.here; rest = c.trim.ensures.trimmed.rest; others = c.trim.ensures.trimmed.others })

pub returns-clause-count : goal.returns-clause-count
returns-clause-count g c =
    let k = c.args.self.now in
    let at = c.args.c in
    let shaped = c.requires.say.2 in
    let lies = piece-in (shown c.args.tables.now) c.requires.say.0 k at shaped c.requires.piece in
    let e : lens_of k at ≡ c.get.result = get_or_default k.lens at 0 c.get.result lies.listed ∙ sym c.get.ensures in
    let u : c.offset-until.result ≡ offset_of k.cells (at + lens_of k at) = c.offset-until.ensures ∙ ap (λ m. offset_of k.cells (at + m)) (sym e) in
    let next : offset_of k.cells c.cell_at-next.result ≡ offset_of k.cells at + c.stretch-len.result = c.cell_at-next.ensures.offset ∙ ap (λ f. f + c.stretch-len.result) c.offset-from.ensures in
    let is = cut-at k at c.cell_at-next.result c.stretch-len.result shaped.can.read.cells lies c.cell_at-next.ensures.within next c.stretch-len.ensures.some (omega (arith, u, c.stretch-len.ensures.within, c.offset-from.ensures)) in
    cut-size k at c.cell_at-next.result c.stretch-len.result (lens_of (record k { lens = c.trim.new.lens }) at) is.low c.trim.ensures.trimmed.here next

pub returns-clause-still : goal.returns-clause-still
returns-clause-still g c =
    let k = c.args.self.now in
    let cut = shown c.args.tables.now in
    let n = c.stretch-len.result in
    subst (λ f. AllStay cut k.readers.items f n) c.offset-from.ensures (subst (λ (rs : List Reader). AllStay cut rs c.offset-from.result n) c.as_slice.ensures.value c.stretch-len.ensures.still)

pub overflow_sub-until : goal.overflow_sub-until
overflow_sub-until g c =
    let k = c.args.self.now in
    let at = c.args.c in
    let shaped = c.requires.say.2 in
    let lies = piece-in (shown c.args.tables.now) c.requires.say.0 k at shaped c.requires.piece in
    let e : lens_of k at ≡ c.get.result = get_or_default k.lens at 0 c.get.result lies.listed ∙ sym c.get.ensures in
    let u : c.offset-until.result ≡ offset_of k.cells (at + lens_of k at) = c.offset-until.ensures ∙ ap (λ m. offset_of k.cells (at + m)) (sym e) in
    omega (arith, u, lies.low, c.offset-from.ensures)

pub overflow_sub-next : goal.overflow_sub-next
overflow_sub-next g c =
    let k = c.args.self.now in
    let at = c.args.c in
    let shaped = c.requires.say.2 in
    let lies = piece-in (shown c.args.tables.now) c.requires.say.0 k at shaped c.requires.piece in
    let e : lens_of k at ≡ c.get.result = get_or_default k.lens at 0 c.get.result lies.listed ∙ sym c.get.ensures in
    let u : c.offset-until.result ≡ offset_of k.cells (at + lens_of k at) = c.offset-until.ensures ∙ ap (λ m. offset_of k.cells (at + m)) (sym e) in
    let next : offset_of k.cells c.cell_at-next.result ≡ offset_of k.cells at + c.stretch-len.result = c.cell_at-next.ensures.offset ∙ ap (λ f. f + c.stretch-len.result) c.offset-from.ensures in
    let is = cut-at k at c.cell_at-next.result c.stretch-len.result shaped.can.read.cells lies c.cell_at-next.ensures.within next c.stretch-len.ensures.some (omega (arith, u, c.stretch-len.ensures.within, c.offset-from.ensures)) in
    omega (arith, is.low)

pub trim-requires-clause-some : goal.trim-requires-clause-some
trim-requires-clause-some g c =
    let k = c.args.self.now in
    let at = c.args.c in
    let shaped = c.requires.say.2 in
    let lies = piece-in (shown c.args.tables.now) c.requires.say.0 k at shaped c.requires.piece in
    let e : lens_of k at ≡ c.get.result = get_or_default k.lens at 0 c.get.result lies.listed ∙ sym c.get.ensures in
    let u : c.offset-until.result ≡ offset_of k.cells (at + lens_of k at) = c.offset-until.ensures ∙ ap (λ m. offset_of k.cells (at + m)) (sym e) in
    let next : offset_of k.cells c.cell_at-next.result ≡ offset_of k.cells at + c.stretch-len.result = c.cell_at-next.ensures.offset ∙ ap (λ f. f + c.stretch-len.result) c.offset-from.ensures in
    let is = cut-at k at c.cell_at-next.result c.stretch-len.result shaped.can.read.cells lies c.cell_at-next.ensures.within next c.stretch-len.ensures.some (omega (arith, u, c.stretch-len.ensures.within, c.offset-from.ensures)) in
    omega (arith, is.low)

pub trim-requires-clause-within : goal.trim-requires-clause-within
trim-requires-clause-within g c =
    (piece-in (shown c.args.tables.now) c.requires.say.0 c.args.self.now c.args.c c.requires.say.2 c.requires.piece).whole
