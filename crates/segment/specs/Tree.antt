-- The value of a tree: segments over segments, and readings below the last ones.
use Rattle.std.specs.Prelude.{◌≡◌, ℕ, ◌^◌, ◌<◌, ◌≤◌, ◌⊎◌, ℤ, List, [], ◌∷◌, ◌++◌, length, take, drop, Option, Some, None}
use Rattle.segment.specs.declared.segments.Seg.{Seg}
use Rattle.segment.specs.Fit.{fit_of}
use Rattle.segment.specs.Measure.{AreReadings, IsTrueOf}
use Rattle.segment.specs.Shape.{Plan, leaf, fork, plan}

pub data SegTree : Type 0 where
  tip : Seg → List ℤ → SegTree
  node : Seg → SegTree → SegTree → SegTree

-- the readings in order
abbrev pub readings_of : SegTree → List ℤ
readings_of (tip g xs) = xs
readings_of (node g left right) = readings_of left ++ readings_of right

-- the segments in preorder
abbrev pub segs_of : SegTree → List Seg
segs_of (tip g xs) = g ∷ []
segs_of (node g left right) = g ∷ segs_of left ++ segs_of right

-- the segment of the whole
abbrev pub root_of : SegTree → Seg
root_of (tip g xs) = g
root_of (node g left right) = g

-- the ranges of the segments
abbrev pub plan_of : SegTree → Plan
plan_of (tip g xs) = leaf g.start g.len
plan_of (node g left right) = fork g.start g.len (plan_of left) (plan_of right)

-- the tree itself, or a part of it
abbrev pub IsPartOf : SegTree → SegTree → Type 0
IsPartOf part (tip g xs) = part ≡ tip g xs
IsPartOf part (node g left right) = (part ≡ node g left right) ⊎ (IsPartOf part left ⊎ IsPartOf part right)

-- each segment is true of the readings below it
abbrev pub AllTrue : SegTree → Type 0
AllTrue (tip g xs) = IsTrueOf xs g
AllTrue (node g left right) = IsTrueOf (readings_of left ++ readings_of right) g × AllTrue left × AllTrue right

-- how many readings a plan covers
abbrev pub width : Plan → ℕ
width (leaf start len) = len
width (fork start len left right) = len

-- the tree with these ranges over the readings, in which each segment is the fit of its readings
abbrev pub fits : ℕ → Plan → List ℤ → SegTree
fits degree (leaf start len) xs = tip (fit_of degree start xs) xs
fits degree (fork start len left right) xs =
    node (fit_of degree start xs) (fits degree left (take (width left) xs)) (fits degree right (drop (width left) xs))

-- the fitted tree over some readings of a series
abbrev pub fitted : ℕ → List ℤ → SegTree
fitted degree xs = fits degree (plan 0 (length xs)) xs

-- a series has a tree where it has readings
abbrev pub fitted_series : ℕ → List ℤ → Option SegTree
fitted_series degree [] = None
fitted_series degree (x ∷ xs) = Some (fitted degree (x ∷ xs))

-- the readings of a series by its tree
abbrev pub all_readings : Option SegTree → List ℤ
all_readings None = []
all_readings (Some t) = readings_of t

-- its segments in preorder
abbrev pub all_segs : Option SegTree → List Seg
all_segs None = []
all_segs (Some t) = segs_of t

-- what every tree over n readings of a series keeps
pub record IsTreeOver (n : ℕ) (t : SegTree) : Type 0 where
  pub some : 0 < n
  pub few : n ≤ 2 ^ 20
  pub shaped : plan_of t ≡ plan 0 n
  pub long : length (readings_of t) ≡ n
  pub small : AreReadings (readings_of t)
  pub all_true : AllTrue t
