use Rattle.std.proofs.Common.{◌≡◌, ◌-◌, ◌^◌, pos, get_or, drop, SFits, rules, arith, refl}
use Rattle.std.specs.Int.{w128}
use Rattle.std.proofs.lemmas.Int.{to_z-of_z}
use Rattle.std.proofs.lemmas.List.{drop_all}
use Rattle.poly.proofs.TermLaws.{drop-before}
use Rattle.poly.proofs.Products.{product_none, product_step, product_step_none, product_room, product_parts, product_degree}
use Rattle.poly.specs.declared.TheConstants.{N_TERMS}
use Rattle.poly.proofs.Poly.mul.Goals as goal

pub loop-j-init : goal.loop-j-init
loop-j-init c = rw (drop_all N_TERMS c.args.self.now.c (omega arith)) (product_none c.args.other.now.c _ refl)

pub raised-product-requires : goal.raised-product-requires
raised-product-requires c = product_room c.args.self.now.c c.args.other.now.c c.loop-j.product.c c.loop-j.j N_TERMS (omega arith) c.loop-j.invariant c.requires.degree

pub scale-requires-clause-small : goal.scale-requires-clause-small
scale-requires-clause-small c =
    let term_fits : SFits w128 (get_or c.args.self.now.c (c.loop-j.j - 1) (pos 0)) = search rules in
    let parts = product_parts c.args.self.now.c c.args.other.now.c c.loop-j.product.c c.loop-j.j c.args.m (2 ^ 125) (omega arith) (omega arith) c.requires.place c.loop-j.invariant c.requires.small in
    simp to_z-of_z parts.part

pub add-product-requires-clause-left : goal.add-product-requires-clause-left
add-product-requires-clause-left c =
    let parts = product_parts c.args.self.now.c c.args.other.now.c c.loop-j.product.c c.loop-j.j c.args.m (2 ^ 125) (omega arith) (omega arith) c.requires.place c.loop-j.invariant c.requires.small in
    rw (c.raised-product.ensures.norm c.args.m) parts.raised

pub add-product-requires-clause-right : goal.add-product-requires-clause-right
add-product-requires-clause-right c =
    let term_fits : SFits w128 (get_or c.args.self.now.c (c.loop-j.j - 1) (pos 0)) = search rules in
    let parts = product_parts c.args.self.now.c c.args.other.now.c c.loop-j.product.c c.loop-j.j c.args.m (2 ^ 125) (omega arith) (omega arith) c.requires.place c.loop-j.invariant c.requires.small in
    rw (c.scale.ensures.norm c.args.m) (simp to_z-of_z parts.part)

pub loop-j-preserved : goal.loop-j-preserved
loop-j-preserved c =
    rw (drop-before c.args.self.now.c c.loop-j.j (omega arith) (omega arith))
    (product_step_none (get_or c.args.self.now.c (c.loop-j.j - 1) (pos 0)) (drop c.loop-j.j c.args.self.now.c) c.args.other.now.c c.loop-j.product.c c.raised-product.result.c (search rules) c.loop-j.invariant c.raised-product.ensures)

pub loop-j-preserved-then-factor-ne0 : goal.loop-j-preserved-then-factor-ne0
loop-j-preserved-then-factor-ne0 c =
    let term_fits : SFits w128 (get_or c.args.self.now.c (c.loop-j.j - 1) (pos 0)) = search rules in
    let part = simp to_z-of_z at c.scale.ensures in
    rw (drop-before c.args.self.now.c c.loop-j.j (omega arith) (omega arith))
    (product_step (get_or c.args.self.now.c (c.loop-j.j - 1) (pos 0)) (drop c.loop-j.j c.args.self.now.c) c.args.other.now.c c.loop-j.product.c c.raised-product.result.c c.scale.result.c c.add-product.result.c c.loop-j.invariant c.raised-product.ensures
    part.value part.norm part.size part.none c.add-product.ensures.value c.add-product.ensures.norm c.add-product.ensures.size)

pub returns : goal.returns
returns c =
    let last : c.loop-j.j ≡ 0 = omega arith in
    let product = rw last at c.loop-j.invariant in
    record { value = product.value; norm = product.norm; degree = product_degree c.args.self.now.c c.args.other.now.c c.loop-j.product.c product }
