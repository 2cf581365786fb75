-- The verdict on a certificate over a store: whether its lists are a cut, and what the interval of that cut proves.
use Rattle.std.specs.Prelude.{ℕ, ◌+◌, ◌==◌, ◌&&◌, nat_lt, Bool, true, false, if◌then◌else◌, pos, int_le, List, [], ◌∷◌, drop, map, Option, Some, None, unwrap_or, option_and_then, option_map, Result, Ok, Err}
use Rattle.std.specs.List.{list_any}
use Rattle.semantics.specs.Admission as admission
use Rattle.semantics.specs.Names.{same_name}
use Rattle.semantics.specs.Plain.{plain}
use Rattle.semantics.specs.Term.{QueryTerm}
use Rattle.interval.specs.Interval.{Interval}
use Rattle.expr.specs.declared.admission.AdmitErr.{AdmitErr}
use Rattle.expr.specs.declared.admission.AdmitErr.TheVariants as admit
use Rattle.expr_parse.specs.Parsed.{parsed}
use Rattle.expr_parse.specs.declared.error.ParseErr.{ParseErr}
use Rattle.segment.specs.declared.segments.Seg.{Seg}
use Rattle.segment.specs.Nodes.{Forest, tree_in}
use Rattle.segment.specs.Tree.{SegTree, tip, node, root_of}
use Rattle.store_file.specs.Added.{names_in}
use Rattle.store_file.specs.Facts.{facts_in}
use Rattle.store_file.specs.StoreValue.{Series, StoreValue}
use Rattle.descent.specs.Rows.{Track}
use Rattle.descent.specs.Descents.{Node, Nodes, closed, cut_of, opened, root_track}
use Rattle.descent.specs.Sums.{interval_in, width_of}
use Rattle.answer_check.specs.declared.certificate.Cert.{Cert}
use Rattle.answer_check.specs.declared.certificate.CertList.{CertList}
use Rattle.answer_check.specs.declared.verdict.Verdict.{Verdict}
use Rattle.answer_check.specs.declared.verdict.Verdict.TheVariants.{Holds, NotACut, Escapes, Wide}
use Rattle.answer_check.specs.declared.verdict.VerifyErr.{VerifyErr}
use Rattle.answer_check.specs.declared.verdict.VerifyErr.TheVariants.{Parse, Admit}
use Rattle.answer_check.specs.Certificate.{Triple}

-- ---- the query

abbrev pub admit_err : admission.NotAdmitted → AdmitErr
admit_err (admission.unknown name) = admit.Unknown name
admit_err (admission.high_rank sum) = admit.Rank sum
admit_err (admission.outside sum lo hi) = admit.Domain sum lo hi
admit_err (admission.too_great at) = admit.Range at

abbrev pub unless_refused : QueryTerm → Option admission.NotAdmitted → Result QueryTerm VerifyErr
unless_refused q None = Ok q
unless_refused q (Some r) = Err (Admit (admit_err r))

abbrev pub plain_by : StoreValue → Result QueryTerm ParseErr → Result QueryTerm VerifyErr
plain_by m (Err e) = Err (Parse e)
plain_by m (Ok q) = unless_refused (plain q) (admission.refusal_of (facts_in m) (plain q))

-- the plain query of a text over a store, or why it is refused
unfoldable pub plain_in : StoreValue → List ℕ → Result QueryTerm VerifyErr
plain_in m text = plain_by m (parsed text)

-- ---- the rows of a series

abbrev pub has_range : Seg → Triple → Bool
has_range g row = (g.start == row.0) && (g.len == row.1)

-- the part of a tree that has the range of a row: the tree itself, or a part of the child in which the range begins
abbrev pub part_with : Triple → SegTree → Option SegTree
part_with row (tip g xs) = if has_range g row then Some (tip g xs) else None
part_with row (node g left right) =
    if has_range g row then Some (node g left right)
    else (if nat_lt row.0 (root_of right).start then part_with row left else part_with row right)

-- a part of a tree as a node of a cut; only a leaf may be opened
abbrev pub as_node : Bool → SegTree → Option Node
as_node false part = Some (closed part)
as_node true (tip g xs) = Some (opened (tip g xs))
as_node true (node g left right) = None

abbrev pub node_for : SegTree → Triple → Option Node
node_for t row = option_and_then (as_node row.2) (part_with row t)

abbrev pub before : {A : Type 0} → Option A → Option (List A) → Option (List A)
before None xs = None
before (Some x) xs = option_map (λ ys. x ∷ ys) xs

-- the nodes of rows that lie one behind the other, from a position on to the end of the tree
abbrev pub nodes_from : SegTree → ℕ → List Triple → Option (List Node)
nodes_from t at [] = if at == (root_of t).len then Some [] else None
nodes_from t at (row ∷ rows) =
    if row.0 == at then before (node_for t row) (nodes_from t (at + row.1) rows) else None

-- the nodes of the rows of a series, which are all of a cut; a series without readings has none
abbrev pub nodes_of : Option SegTree → List Triple → Option (List Node)
nodes_of None [] = Some []
nodes_of None (row ∷ rows) = None
nodes_of (Some t) rows = nodes_from t 0 rows

-- ---- the lists of a certificate

abbrev pub with_nodes : Track Node → List Node → Track Node
with_nodes track nodes = record track { rows = nodes }

-- the track of a series by the first of some lists, where that is its list and has the rows of a cut
abbrev pub track_by : ℕ → List ℕ → Option SegTree → List CertList → Option (Track Node)
track_by k name t [] = None
track_by k name t (list ∷ lists) =
    if same_name list.name name then option_map (with_nodes (root_track k name t)) (nodes_of t list.rows) else None

abbrev pub and_then : Option (Track Node) → ℕ → Result Nodes ℕ → Result Nodes ℕ
and_then None place rest = Err place
and_then (Some track) place (Ok tracks) = Ok (track ∷ tracks)
and_then (Some track) place (Err later) = Err later

-- the cut of the lists from a place on, for the series from the k-th on that the query names, or the least place at
-- which a list is missing, is another one's, has no cut, or is one too many
abbrev pub cut_from : QueryTerm → Forest → ℕ → ℕ → List (List ℕ) → List CertList → Result Nodes ℕ
cut_from q forest k place [] [] = Ok []
cut_from q forest k place [] (list ∷ lists) = Err place
cut_from q forest k place (name ∷ names) lists =
    if list_any (same_name name) (admission.query_names q)
    then and_then (track_by k name (tree_in forest k) lists) place
    (cut_from q forest (k + 1) (place + 1) names (drop 1 lists))
    else cut_from q forest (k + 1) place names lists

abbrev pub tree_of : Series → Option SegTree
tree_of s = s.tree

abbrev pub forest_of : StoreValue → Forest
forest_of m = map tree_of m.series

-- the cut that lists are over a store, or the place that is none
unfoldable pub cut_by : StoreValue → QueryTerm → List CertList → Result Nodes ℕ
cut_by m q lists = cut_from q (forest_of m) 0 0 (names_in m) lists

-- ---- the verdict

abbrev pub no_interval : Interval
no_interval = record { lo = pos 0; hi = pos 0 }

-- the interval of a cut; over a store each cut has one
unfoldable pub interval_of : QueryTerm → Nodes → Interval
interval_of q nodes = unwrap_or (interval_in (cut_of nodes) q) no_interval

-- what a certificate says of the query's value
abbrev pub stated : Cert → Interval
stated c = record { lo = c.lo; hi = c.hi }

abbrev pub is_inside : Interval → Interval → Bool
is_inside a b = int_le b.lo a.lo && int_le a.hi b.hi

-- an interval that is proved has to lie inside of the stated one, and that has to be no wider than the budget
abbrev pub judged : Cert → Interval → Verdict
judged c proved =
    if is_inside proved (stated c)
    then (if nat_lt c.budget (width_of (stated c)) then Wide (width_of (stated c)) else Holds)
    else Escapes proved

abbrev pub judged_over : Cert → QueryTerm → Result Nodes ℕ → Verdict
judged_over c q (Err place) = NotACut place
judged_over c q (Ok nodes) = judged c (interval_of q nodes)

-- the verdict on a certificate whose plain query is this one
abbrev pub verdict_of : StoreValue → QueryTerm → Cert → Verdict
verdict_of m q c = judged_over c q (cut_by m q c.cut)

abbrev pub verdict_for : StoreValue → Cert → Result QueryTerm VerifyErr → Result Verdict VerifyErr
verdict_for m c (Err e) = Err e
verdict_for m c (Ok q) = Ok (verdict_of m q c)

-- the verdict on a certificate, or why its query is refused
unfoldable pub answer_of : StoreValue → Cert → Result Verdict VerifyErr
answer_of m c = verdict_for m c (plain_in m c.query)
