-- The bytes of small stores, computed.
use Rattle.std.proofs.Common.{◌≡◌, ℕ, List, [], ◌∷◌, codes, Some, length, take, drop, refl, ap, ap₂, ◌∙◌, arith}
use Rattle.segment.specs.Fit.{flat_of, line_of, parabola_of}
use Rattle.segment.specs.Measure.{miss, greatest_estimate, greatest_reading}
use Rattle.segment.specs.Shape.{Plan, leaf, fork, plan, plan_below}
use Rattle.segment.specs.Tree.{fits}
use Rattle.segment.proofs.ShapeLaws.{plan-leaf, plan-fork}
use Rattle.tree_file.specs.Bytes.{bytes_of, wrapped}
use Rattle.tree_file.specs.Record.{record_of}
use Rattle.store_file.specs.StoreValue.{StoreValue, header_of, store_image}
use Rattle.store_file.specs.Worked.{store_with, turns, OneReadingHasBytes, SixFieldsHaveBytes, TurnsHaveBytes}

pub one-reading : OneReadingHasBytes
unfolding store_image header_of record_of bytes_of wrapped flat_of line_of parabola_of miss greatest_estimate greatest_reading plan plan_below
one-reading = refl

pub six-fields : SixFieldsHaveBytes
unfolding store_image header_of record_of bytes_of wrapped
six-fields = refl

-- two leaves below a root
two_blocks : Plan
two_blocks = fork 0 32 (leaf 0 16) (leaf 16 16)

plan-two_blocks : plan 0 32 ≡ two_blocks
unfolding two_blocks
plan-two_blocks =
    plan-fork 0 32 16 (record { power = (0, refl); below = omega arith; greatest = omega arith })
    ∙ ap₂ (fork 0 32) (plan-leaf 0 16 (omega arith)) (plan-leaf 16 16 (omega arith))

turns_by : Plan → StoreValue
turns_by p = record { scale = 0; degree = 0; series = record { name = codes "x"; tree = Some (fits 0 p (turns 16)) } ∷ [] }

turns-by : store_with (turns 16) ≡ turns_by (plan 0 32)
unfolding turns_by
turns-by = refl

turns_image : List ℕ
turns_image = store_image (turns_by two_blocks)

image-turns : store_image (store_with (turns 16)) ≡ turns_image
unfolding turns_image
image-turns = ap store_image (turns-by ∙ ap turns_by plan-two_blocks)

turns-len : length turns_image ≡ 310
unfolding turns_image two_blocks turns_by store_image header_of record_of bytes_of wrapped flat_of miss greatest_estimate greatest_reading
turns-len = refl

pub turns-bytes : TurnsHaveBytes
unfolding turns_image two_blocks turns_by store_image header_of record_of bytes_of wrapped flat_of miss greatest_estimate greatest_reading
turns-bytes = record { len = ap length image-turns ∙ turns-len; root = ap (λ q. take 56 (drop 14 q)) image-turns }
