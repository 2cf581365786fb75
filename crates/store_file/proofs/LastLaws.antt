-- The last reading of a series.
use Rattle.std.proofs.Common.{◌≡◌, ◌∙◌, ℕ, ℤ, false, List, Option, Some, None, Result, Ok, Err, is_some, refl, sym, ap, subst}
use Rattle.std.specs.List.{last_or}
use Rattle.std.specs.Map.{lookup}
use Rattle.semantics.specs.Names.{same_name}
use Rattle.segment.specs.Tree.{all_readings}
use Rattle.seg_tree.specs.Trees.{value_of}
use Rattle.store_file.specs.Added.{names_in}
use Rattle.store_file.specs.Grown.{readings_named}
use Rattle.store_file.specs.Last.{last_in}
use Rattle.store_file.specs.StoreValue.{has_name}
use Rattle.store_file.specs.Stored.{IsSound, StoreParts, store_value}
use Rattle.store_file.specs.declared.adding.SeriesErr.{SeriesErr}
use Rattle.store_file.specs.declared.adding.SeriesErr.TheVariants as refusal
use Rattle.store_file.specs.declared.store.Stored.{Stored}
use Rattle.store_file.proofs.AddedLaws.{there}
use Rattle.store_file.proofs.GrownLaws.{is-there}

-- a series that isn't there
pub last-unknown : (v s : StoreParts) (name : List ℕ) → v ≡ s → None ≡ lookup (same_name name) v.entries → ◌≡◌ {A = Result (Option ℤ) SeriesErr} (Err refusal.Unknown) (last_in (store_value s) name)
last-unknown v s name is none =
    let absent : has_name (names_in (store_value v)) name ≡ false = sym (there v name) ∙ ap is_some (sym none) in
    subst (λ p. ◌≡◌ {A = Result (Option ℤ) SeriesErr} (Err refusal.Unknown) (last_in (store_value p) name)) is (rw absent refl)

-- the tree's last reading is the series'
pub last-there : (v s : StoreParts) (name : List ℕ) (x : Stored) (o : Option ℤ) → v ≡ s → IsSound v → Some x ≡ lookup (same_name name) v.entries
    → o ≡ last_or None (all_readings (value_of v.arena.nodes x.tree)) → ◌≡◌ {A = Result (Option ℤ) SeriesErr} (Ok o) (last_in (store_value s) name)
last-there v s name x o is sound found last =
    let here = is-there v s name x is sound found in
    let named : o ≡ last_or None (readings_named (store_value v).series name) = last ∙ ap (last_or None) (sym here.readings) in
    subst (λ p. ◌≡◌ {A = Result (Option ℤ) SeriesErr} (Ok o) (last_in (store_value p) name)) is (rw here.there (ap Ok named))
