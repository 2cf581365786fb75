-- What an arena holds.
use Rattle.std.specs.Prelude.{ℕ}
use Rattle.seg_tree.specs.Linked.{Places}

pub record Held : Type 0 where
  pub nodes : Places
  pub degree : ℕ
  pub limit : ℕ

-- what the places of an arena hold, and how many nodes may be put without memory
pub record Room : Type 0 where
  pub nodes : Places
  pub spare : ℕ
