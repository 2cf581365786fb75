-- The numbers of a local form that bound what it says of a series.
use Rattle.std.specs.Prelude.{◌≡◌, ℕ, ◌+◌, ◌*◌, ◌^◌, ◌≤◌, List, ◌++◌, length, All}
use Rattle.segment.specs.declared.segments.Seg.{Seg}
use Rattle.bounds.specs.Form.{lift}
use Rattle.bounds.specs.Shape.{Shape, times_each}
use Rattle.bounds.specs.Small.{AreSmall, IsSmallProduct}
use Rattle.error_prop.specs.declared.sizes.Size.{Size}

-- a size has the numbers of a shape
pub record IsSize (z : Size) (s : Shape) : Type 0 where
  pub rank : z.rank ≡ s.rank
  pub most : z.x ≡ s.most
  pub most_estimate : z.f ≡ s.most_estimate

-- the shape of a size, with a norm and with weights
abbrev pub shape_at : Size → ℕ → List ℕ → Shape
shape_at z n ws = record { rank = z.rank; most = z.x; most_estimate = z.f; norm = n; weights = ws }

-- the weights of a sum's parts, brought to one rank
abbrev pub weights_of_sum : Size → Size → List ℕ → List ℕ → List ℕ
weights_of_sum u v us vs = times_each (lift u.rank v.rank) us ++ times_each (lift v.rank u.rank) vs

-- the size of a sum is small
pub record CanAdd (u v : Size) : Type 0 where
  pub rank_u : u.rank ≤ 3
  pub rank_v : v.rank ≤ 3
  pub most : u.x + v.x ≤ 2 ^ 125
  pub most_estimate : lift u.rank v.rank * u.f + lift v.rank u.rank * v.f ≤ 2 ^ 125

-- that of a product is small
pub record CanMultiply (u v : Size) : Type 0 where
  pub rank : u.rank + v.rank ≤ 2
  pub most : u.x * v.x ≤ 2 ^ 125
  pub most_estimate : u.f * v.f ≤ 2 ^ 125

-- the weights of a sum's parts can be brought to one rank
pub record SumNeeds (us vs : List ℕ) (u v : Size) : Type 0 where
  pub rank_u : u.rank ≤ 3
  pub rank_v : v.rank ≤ 3
  pub small : AreSmall (weights_of_sum u v us vs)

-- those of a product's parts can be weighed by either form
pub record ProductNeeds (us vs : List ℕ) (gs : List Seg) (u v : Size) : Type 0 where
  pub count : length us + length vs ≤ length gs
  pub rank_u : u.rank ≤ 2
  pub rank_v : v.rank ≤ 2
  pub small : IsSmallProduct (shape_at u 0 us) (shape_at v 0 vs) gs

-- no segment misses anything
abbrev pub MissNothing : List Seg → Type 0
MissNothing gs = All (λ g. g.l ≡ 0) gs
