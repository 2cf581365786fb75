-- The end of segments behind others.
use Rattle.std.proofs.Common.{◌≡◌, ℕ, ◌+◌, List, [], ◌∷◌, ◌++◌, refl}
use Rattle.segment.specs.declared.segments.Seg.{Seg}
use Rattle.error_prop.specs.Entries.{end_from}

pub end_from-append : (from : ℕ) (gs hs : List Seg) → end_from from (gs ++ hs) ≡ end_from (end_from from gs) hs
end_from-append from [] hs = refl
end_from-append from (g ∷ gs) hs = end_from-append (from + g.len) gs hs
