use Rattle.std.proofs.Common.{◌+◌, ◌-◌, ◌%◌, ◌≤◌, ◌<◌, refl, inl, inr, arith}
use Rattle.descent.specs.declared.cells.Cells.{Cells}
use Rattle.descent.proofs.CellLaws.{comes-first, comes-second, two-cells}
use Rattle.descent.proofs.ReaderLaws.{comes-to-block, in-order}
use Rattle.descent.proofs.readers.two_cells.Goals as goal

pub returns-clause-cells : goal.returns-clause-cells
returns-clause-cells c =
    let least = c.min-least.result in
    let most = c.max-most.result in
    let g : Cells = record { count = c.args.count; grain = 16; second = (16 + least - most) % 16; pad = least } in
    let order : least ≤ most = omega (arith, c.min-least.ensures, c.max-most.ensures) in
    let within : most < 16 = omega (arith, c.max-most.ensures) in
    two-cells g most c.requires.some c.requires.room refl order within refl

pub returns-clause-aligned : goal.returns-clause-aligned
returns-clause-aligned c =
    let least = c.min-least.result in
    let most = c.max-most.result in
    let order : least ≤ most = omega (arith, c.min-least.ensures, c.max-most.ensures) in
    let within : most < 16 = omega (arith, c.max-most.ensures) in
    λ r e offset k border.
    elim (in-order r c.args.first c.args.other least most c.min-least.ensures c.max-most.ensures e) [
      | inl a ↦ comes-first ((16 + least - most) % 16) 16 least most a.block offset k refl order within refl
          (comes-to-block r least a.block offset k a.at border)
      | inr b ↦ comes-second ((16 + least - most) % 16) 16 least most b.block offset k refl order within refl
          (comes-to-block r most b.block offset k b.at border)
    ]
