-- The file of a name in a map, and a map with one written anew.
use Rattle.std.proofs.Common.{◌≡◌, ℕ, List, [], ◌∷◌, Some, cond, map, refl, sym, ap, ◌∙◌}
use Rattle.std.specs.Ordering.{nat_cmp, eq_by_cmp}
use Rattle.std.specs.String.{string_bytes, string_cmp}
use Rattle.std.specs.Cmp.{eq_by_cmp_equiv}
use Rattle.std.specs.Cmp.Lexicographic.{slice_cmp, nat_list_cmp_total}
use Rattle.std.specs.FinMap as finite
use Rattle.std.specs.BTreeMap.{BTreeMap, Updates, get_by_text, is_at}
use Rattle.std.specs.Map.{lookup}
use Rattle.std.proofs.lemmas.Map.Text.{is_eq-slice_cmp, btree_map_updates_text}
use Rattle.std.specs.declared.string.String.{String}
use Rattle.std.specs.declared.alloc.Global.{Global}
use Rattle.semantics.specs.Files.{file_of, with_file}
use Rattle.outside.specs.MapFiles.{files_of}

find_text : (es : List (String Global × List ℕ)) (name : List ℕ)
    → finite.find (slice_cmp nat_cmp) name (map (λ e. (string_bytes e.0, e.1)) es) ≡ lookup (is_at (λ k. slice_cmp nat_cmp name (string_bytes k))) es
find_text [] name = refl
find_text (e ∷ es) name = ap (cond (is_at (λ k. slice_cmp nat_cmp name (string_bytes k)) e.0) (Some e.1)) (find_text es name)

-- the file of a name is what the map has at it
pub file_of_map : (m : BTreeMap (String Global) (List ℕ)) (name : List ℕ) → file_of (files_of m) name ≡ get_by_text m name
file_of_map m name = finite.get-from_entries nat_list_cmp_total (map (λ e. (string_bytes e.0, e.1)) m.entries) name ∙ find_text m.entries name

-- a map with one entry written anew has that file written anew
pub files_of-updated : (m n : BTreeMap (String Global) (List ℕ)) (k : String Global) (name bytes : List ℕ) → string_bytes k ≡ name
    → Updates string_cmp m n k (Some bytes) → files_of n ≡ with_file (files_of m) name bytes
files_of-updated m n k name bytes spelled h =
    finite.same_map nat_list_cmp_total (finite.slice_cmp-IsAntisymmetric finite.nat_cmp-IsAntisymmetric) _ _ (λ q.
    file_of_map n q
    ∙ btree_map_updates_text (string_bytes k) m n (Some bytes) h q
    ∙ ap (λ b. cond b (Some bytes) (get_by_text m q)) (sym (is_eq-slice_cmp (string_bytes k) q) ∙ (eq_by_cmp_equiv nat_list_cmp_total).symm (string_bytes k) q)
    ∙ ap (cond (eq_by_cmp (slice_cmp nat_cmp) q (string_bytes k)) (Some bytes)) (sym (file_of_map m q))
    ∙ sym (finite.get-insert nat_list_cmp_total (files_of m) (string_bytes k) bytes q))
    ∙ ap (λ word. with_file (files_of m) word bytes) spelled
