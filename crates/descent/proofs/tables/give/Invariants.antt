use Rattle.std.proofs.Common.{◌≡◌, ℕ, ◌<◌, ◌≤◌, ◌⊎◌, max, length, get_or}
use Rattle.descent.proofs.tables.give.Given as goal

abbrev pub invariant-loop-b : goal.invariant-loop-b
invariant-loop-b l = record {
  given : (b : ℕ) → l.from ≤ b → b < l.b → get_or l.owners.items b 0 ≡ l.owner;
  others : (b : ℕ) → (b < l.from) ⊎ (l.b ≤ b) → get_or l.owners.items b 0 ≡ get_or l.fn.owners.items b 0;
  count : length l.owners.items ≡ length l.fn.owners.items;
  end : l.b ≤ max l.from l.until;
}
