-- Fits of readings over which two curves miss by as much: the one of the least degree is taken.
use Rattle.std.specs.Prelude.{◌≡◌, ℤ, pos, negsuc, List, [], ◌∷◌, refl}
use Rattle.segment.specs.Fit.{best_curve, flat_of, line_of, parabola_of}
use Rattle.segment.specs.Measure.{greatest_reading, miss}

-- the level -1 and a line with a slope of half a reading each miss by 2 readings in all
abbrev pub level_or_line : List ℤ
level_or_line = negsuc 1 ∷ pos 0 ∷ negsuc 0 ∷ []

level-is-level : flat_of level_or_line ≡ record { a = negsuc 16383; b = pos 0; c = pos 0 }
unfolding flat_of
level-is-level = refl

line-is-line : line_of level_or_line ≡ record { a = negsuc 24575; b = pos 8192; c = pos 0 }
unfolding line_of
line-is-line = refl

both-miss : miss (flat_of level_or_line) level_or_line ≡ miss (line_of level_or_line) level_or_line
unfolding flat_of line_of miss
both-miss = refl

level-is-taken : best_curve 1 level_or_line ≡ flat_of level_or_line
unfolding flat_of line_of miss greatest_reading
level-is-taken = refl

-- a line and a parabola each miss by one reading in all
abbrev pub line_or_parabola : List ℤ
line_or_parabola = negsuc 1 ∷ negsuc 1 ∷ negsuc 0 ∷ pos 0 ∷ []

parabola-is-parabola : parabola_of line_or_parabola ≡ record { a = negsuc 29489; b = negsuc 13107; c = pos 8192 }
unfolding parabola_of
parabola-is-parabola = refl

line-is-taken : best_curve 2 line_or_parabola ≡ record { a = negsuc 37681; b = pos 11468; c = pos 0 }
unfolding flat_of line_of parabola_of miss greatest_reading
line-is-taken = refl
