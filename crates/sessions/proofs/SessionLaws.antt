-- A session that is kept, from its opening on and step by step.
use Rattle.std.proofs.Common.{◌≡◌, ◌∙◌, ℕ, suc, ◌≤◌, ℤ, Bool, true, false, cond, List, length, map, Option, Some, None, refl, sym, ap, ap₂, subst, arith}
use Rattle.std.specs.Prelude.{◌↔◌, IsSomeAnd, nat_le, unwrap_or}
use Rattle.std.specs.List.{All}
use Rattle.descent.specs.Choice.{choice}
use Rattle.descent.specs.Descents.{Nodes, after, cut_of, next}
use Rattle.descent.specs.Held.{AreNodesOf, CutView, Held, heads, shown}
use Rattle.descent.specs.Known.{facts_in}
use Rattle.descent.specs.Rows.{Track}
use Rattle.descent.specs.Spelled.{spelled}
use Rattle.descent.specs.Sums.{interval_in, width_of}
use Rattle.descent.proofs.Admits.{facts-heads}
use Rattle.descent.proofs.Ends.{none-wide}
use Rattle.descent.proofs.Reached.{after_nodes, roots_nodes}
use Rattle.descent.proofs.Spelling.{spelling_tells_queries}
use Rattle.descent.proofs.Values.{each_cut_holds_the_value}
use Rattle.interval.specs.Interval.{Has, Interval, IsWithin, meet_of}
use Rattle.seg_tree.specs.Linked.{Places}
use Rattle.seg_tree.specs.Reached.{Means, Reached, forest_of as reached_forest}
use Rattle.seg_tree.specs.Trees.{IsTreeOf, value_of}
use Rattle.seg_tree.specs.declared.arena.Tree.{Tree}
use Rattle.segment.specs.Nodes.{Forest}
use Rattle.semantics.specs.Admitted.{IsAdmitted}
use Rattle.semantics.specs.Limits.{IsWithinLimits}
use Rattle.semantics.specs.Plain.{IsPlain}
use Rattle.semantics.specs.Term.{QueryTerm}
use Rattle.sessions.specs.Cuts.{Follows, HasInterval, HasRow, IsCutFor, IsCutIn, IsCutOver}
use Rattle.sessions.specs.Hub.{Session, expanded, first_nodes, forest_of, interval_of, is_done, next_nodes, no_interval, opened, shown as told, stepped}
use Rattle.sessions.specs.Kept.{AreTracksIn, Keeps, Kept, reached_from, trees_of}
use Rattle.sessions.specs.Steady.{value_for}
use Rattle.sessions.specs.declared.replies.Reply.TheVariants.{Done, Now}
use Rattle.sessions.proofs.EndLaw.{is_le, narrower}
use Rattle.sessions.proofs.SteadyLaw.{meet_holds, meet_second, series_forest, within_itself}
use Rattle.sessions.proofs.StoreNodes.{all_trees, few_trees, store_trees}
use Rattle.store_file.specs.Added.{names_in}
use Rattle.store_file.specs.StoreValue.{IsStoreValue, StoreValue, count_of}
use Rattle.store_file.specs.Stored.{IsSound, StoreParts, store_value}
use Rattle.store_file.proofs.StoredLaws.{sound-value}

-- ---- the nodes are the same behind a call

pub same_reached : (a b : Reached) → a.nodes ≡ b.nodes → a.trees ≡ b.trees → a ≡ b
same_reached a b nodes trees = λ i. record { nodes = nodes i; trees = trees i }

pub means_own : (r : Reached) → All (IsTreeOf r.nodes) r.trees → Means r (reached_forest r)
means_own r all = record { trees = all; same = refl }

-- by what stays of the source
pub still : (old new source later : Reached) → old ≡ source → later ≡ source → All (IsTreeOf old.nodes) old.trees
    → ((forest : Forest) → ((old ≡ source) × Means old forest) ↔ ((new ≡ later) × Means new forest)) → new ≡ old
still old new source later same lasting all means = ((means (reached_forest old)).0 (same, means_own old all)).0 ∙ lasting ∙ sym same

-- the rows stay those of nodes that the same trees reach
pub still_tracks : (places : Places) (trees : List Tree) (old new source later : Reached) (tracks : List (Track (Held ℕ))) → old ≡ reached_from places trees → old ≡ source → later ≡ source
    → All (IsTreeOf places) trees → ((forest : Forest) → ((old ≡ source) × Means old forest) ↔ ((new ≡ later) × Means new forest))
    → AreTracksIn new tracks → AreTracksIn (reached_from places trees) tracks
still_tracks places trees old new source later tracks is same lasting all means here =
    let own : All (IsTreeOf old.nodes) old.trees = subst (λ (r : Reached). All (IsTreeOf r.nodes) r.trees) (sym is) all in
    subst (λ r. AreTracksIn r tracks) (still old new source later same lasting own means ∙ is) here

-- ---- each cut has an interval, which holds the value

pub record IsThere (m : StoreValue) (q : QueryTerm) (nodes : Nodes) : Type 0 where
  pub iv : Interval
  pub is : interval_in (cut_of nodes) q ≡ Some iv
  pub same : interval_of q nodes ≡ iv
  pub holds : Has iv (value_for m q)

there_by : (m : StoreValue) (q : QueryTerm) (nodes : Nodes) (o : Option Interval) → interval_in (cut_of nodes) q ≡ o → IsSomeAnd o (λ iv. Has iv (value_for m q)) → IsThere m q nodes
unfolding interval_of
there_by m q nodes None e h = absurd h
there_by m q nodes (Some iv) e h = record { iv = iv; is = e; same = ap (λ o. unwrap_or o no_interval) e; holds = h }

pub there : (m : StoreValue) (q : QueryTerm) (steps : ℕ) → IsStoreValue m → IsPlain q → IsThere m q (after q (first_nodes m q) steps)
unfolding first_nodes
there m q steps is plain =
    there_by m q (after q (first_nodes m q) steps) (interval_in (cut_of (after q (first_nodes m q) steps)) q) refl
    (each_cut_holds_the_value (map count_of m.series) (forest_of m) (names_in m) q steps (series_forest m.series is.trees) plain)

pub is_interval : (q : QueryTerm) (nodes : Nodes) (iv : Interval) → interval_in (cut_of nodes) q ≡ Some iv → iv ≡ interval_of q nodes
unfolding interval_of
is_interval q nodes iv e = ap (λ o. unwrap_or o no_interval) (sym e)

pub has_interval : (m : StoreValue) (q : QueryTerm) (c : CutView ℕ) → IsPlain q → IsCutOver m q c → HasInterval q c
has_interval m q c plain over =
    let t = there m q over.steps over.store plain in
    record { iv = t.iv; is = ap (λ cut. interval_in cut q) over.rows ∙ t.is }

-- its nodes are those of the store's trees
nodes_of : (m : StoreValue) (q : QueryTerm) (steps : ℕ) → IsStoreValue m → AreNodesOf (forest_of m) (after q (first_nodes m q) steps)
unfolding first_nodes
nodes_of m q steps is =
    after_nodes (forest_of m) q (first_nodes m q) steps (roots_nodes q (map count_of m.series) (forest_of m) 0 (names_in m) (series_forest m.series is.trees))

pub next_over : (places : Places) (trees : List Tree) (m : StoreValue) (q : QueryTerm) (old new : CutView ℕ) → map (value_of places) trees ≡ forest_of m → (over : IsCutOver m q old)
    → Follows places trees q old new → IsCutOver m q new
next_over places trees m q old new forest over follows = record {
  store = over.store;
  steps = suc over.steps;
  rows = follows (after q (first_nodes m q) over.steps)
      (subst (λ f. AreNodesOf f (after q (first_nodes m q) over.steps)) (sym forest) (nodes_of m q over.steps over.store))
      over.rows;
}

-- a cut with the same heads, for the same query
pub cut_with : (q : QueryTerm) (old new : CutView ℕ) → IsCutFor q old → new.query ≡ old.query → heads new.tracks ≡ heads old.tracks → IsCutFor q new
cut_with q old new is query same = record {
  query = query ∙ is.query;
  plain = is.plain;
  limits = is.limits;
  admitted = subst (λ fs. IsAdmitted fs q) (facts-heads old.tracks ∙ ap facts_in (sym same) ∙ sym (facts-heads new.tracks)) is.admitted;
}

-- ---- a session and its cut

-- the query that a session keeps is its own, and its cut is this one
pub record IsOf (k : Kept) (q : QueryTerm) (c : CutView ℕ) : Type 0 where
  pub query : c.query ≡ k.spelled
  pub tracks : c.tracks ≡ k.tracks
  pub own : c.query ≡ spelled q

pub same_query : (places : Places) (k : Kept) (s : Session) (q : QueryTerm) (c : CutView ℕ) → Keeps places k s → IsOf k q c → q ≡ s.query
same_query places k s q c h of = spelling_tells_queries q s.query (sym of.own ∙ of.query ∙ h.spelled)

pub kept_for : (places : Places) (k : Kept) (s : Session) (q : QueryTerm) (c : CutView ℕ) → Keeps places k s → IsOf k q c → IsCutFor q c
kept_for places k s q c h of =
    let same : s.query ≡ q = sym (same_query places k s q c h of) in
    record {
      query = of.own;
      plain = subst IsPlain same h.plain;
      limits = subst IsWithinLimits same h.limits;
      admitted = subst (λ ts. IsAdmitted (facts_in ts) q) (sym of.tracks) (subst (IsAdmitted (facts_in k.tracks)) same h.admitted);
    }

pub kept_over : (places : Places) (k : Kept) (s : Session) (q : QueryTerm) (c : CutView ℕ) → Keeps places k s → IsOf k q c → IsCutOver s.store q c
kept_over places k s q c h of =
    let same : s.query ≡ q = sym (same_query places k s q c h of) in
    record {
      store = h.store;
      steps = h.steps;
      rows = ap shown of.tracks ∙ h.rows ∙ ap cut_of h.reached ∙ ap (λ p. cut_of (after p (first_nodes s.store p) h.steps)) same;
    }

pub kept_in : (places : Places) (k : Kept) (s : Session) (q : QueryTerm) (c : CutView ℕ) (trees : List Tree) → Keeps places k s → IsOf k q c → trees ≡ k.trees → IsCutIn places trees q c
kept_in places k s q c trees h of same =
    subst (λ ts. IsCutIn places ts q c) (sym same)
    (record {
      few = h.few;
      all = h.trees;
      tracks = subst (AreTracksIn (reached_from places k.trees)) (sym of.tracks) h.tracks;
      store = s.store;
      forest = h.forest;
      over = kept_over places k s q c h of;
    })

pub kept_next : (places : Places) (k : Kept) (s : Session) (q : QueryTerm) (old new : CutView ℕ) (trees : List Tree) → Keeps places k s → IsOf k q old → trees ≡ k.trees
    → Follows places trees q old new → IsCutOver s.store q new
kept_next places k s q old new trees h of same follows =
    next_over places k.trees s.store q old new h.forest (kept_over places k s q old h of) (subst (λ ts. Follows places ts q old new) same follows)

-- where no row is chosen, the interval has no width
pub has_row : (places : Places) (k : Kept) (s : Session) (q : QueryTerm) (c : CutView ℕ) → Keeps places k s → IsOf k q c → is_done s ≡ false → HasRow q c
has_row places k s q c h of wide = record {
  some = λ none.
      let same = same_query places k s q c h of in
      let t = there s.store s.query h.steps h.store h.plain in
      let rows : shown c.tracks ≡ cut_of (after s.query (first_nodes s.store s.query) h.steps) = ap shown of.tracks ∙ h.rows ∙ ap cut_of h.reached in
      let zero = none-wide s.query (shown c.tracks) t.iv h.plain (ap (λ cut. interval_in cut s.query) rows ∙ t.is) (subst (λ p. choice p (shown c.tracks) ≡ None) same none) in
      let inside : IsWithin s.running t.iv = subst (IsWithin s.running) (ap (interval_of s.query) h.reached ∙ t.same) h.narrow in
      let done : is_done s ≡ true = is_le (width_of s.running) s.budget (omega (arith, narrower s.running t.iv inside, zero)) in
      let bad : true ≡ false = sym done ∙ wide in
      cc;
}

pub shares : (places : Places) (k : Kept) (s : Session) (q : QueryTerm) (old new : CutView ℕ) (iv : Interval) → Keeps places k s → IsOf k q old
    → IsCutOver s.store q new → interval_in (shown new.tracks) q ≡ Some iv → (v : ℤ) × Has k.running v × Has iv v
shares places k s q old new iv h of over is =
    let same = same_query places k s q old h of in
    let t = there s.store q over.steps over.store (subst IsPlain (sym same) h.plain) in
    let e : Some iv ≡ Some t.iv = sym is ∙ ap (λ cut. interval_in cut q) over.rows ∙ t.is in
    let one : t.iv ≡ iv = cc in (
      value_for s.store s.query,
      subst (λ i. Has i (value_for s.store s.query)) (sym h.running) h.holds,
      subst (λ i. Has i (value_for s.store s.query)) one (subst (λ p. Has t.iv (value_for s.store p)) same t.holds),
    )

-- ---- a step

-- what a step makes of a cut
pub record IsNext (places : Places) (trees : List Tree) (q : QueryTerm) (old new : CutView ℕ) (iv : Interval) : Type 0 where
  pub follows : Follows places trees q old new
  pub tracks : AreTracksIn (reached_from places trees) new.tracks
  pub same : heads new.tracks ≡ heads old.tracks
  pub query : new.query ≡ old.query
  pub interval : interval_in (shown new.tracks) q ≡ Some iv

-- the session with the new cut
abbrev pub kept_with : Kept → CutView ℕ → Interval → Kept
kept_with k c running = record k { spelled = c.query; tracks = c.tracks; running = running }

keeps_expanded : (places : Places) (k : Kept) (s : Session) (old new : CutView ℕ) (iv running : Interval) → Keeps places k s → IsOf k s.query old
    → IsNext places k.trees s.query old new iv → running ≡ meet_of k.running iv → Keeps places (kept_with k new running) (expanded s)
unfolding next_nodes
keeps_expanded places k s old new iv running h of next_is run =
    let q = s.query in
    let is = cut_with q old new (kept_for places k s q old h of) next_is.query next_is.same in
    let nodes : AreNodesOf (map (value_of places) k.trees) s.nodes =
    subst (λ f. AreNodesOf f s.nodes) (sym h.forest) (subst (AreNodesOf (forest_of s.store)) (sym h.reached) (nodes_of s.store q h.steps h.store)) in
    let rows : shown new.tracks ≡ cut_of (next q s.nodes) = next_is.follows s.nodes nodes (ap shown of.tracks ∙ h.rows) in
    let t = there s.store q (suc h.steps) h.store h.plain in
    let reached : next q s.nodes ≡ after q (first_nodes s.store q) (suc h.steps) = ap (next q) h.reached in
    let here : iv ≡ interval_of q (next q s.nodes) = is_interval q (next q s.nodes) iv (ap (λ cut. interval_in cut q) (sym rows) ∙ next_is.interval) in
    let holds : Has (interval_of q (next q s.nodes)) (value_for s.store q) = subst (λ i. Has i (value_for s.store q)) (sym (ap (interval_of q) reached ∙ t.same)) t.holds in
    record {
      few = h.few;
      trees = h.trees;
      forest = h.forest;
      store = h.store;
      budget = h.budget;
      plain = h.plain;
      limits = h.limits;
      admitted = is.admitted;
      spelled = is.query;
      steps = suc h.steps;
      reached = reached;
      tracks = next_is.tracks;
      rows = rows;
      running = run ∙ ap₂ meet_of h.running here;
      holds = meet_holds s.running (interval_of q (next q s.nodes)) (value_for s.store q) h.holds holds;
      narrow = meet_second s.running (interval_of q (next q s.nodes));
    }

pub keeps_stepped : (places : Places) (k : Kept) (s : Session) (q : QueryTerm) (old new : CutView ℕ) (iv running : Interval) → Keeps places k s → IsOf k q old → is_done s ≡ false
    → IsNext places k.trees q old new iv → running ≡ meet_of k.running iv → Keeps places (kept_with k new running) (stepped s)
keeps_stepped places k s q old new iv running h of wide next_is run =
    let same = same_query places k s q old h of in
    subst (λ b. Keeps places (kept_with k new running) (cond b s (expanded s))) (sym wide)
    (keeps_expanded places k s old new iv running h (subst (λ p. IsOf k p old) same of) (subst (λ p. IsNext places k.trees p old new iv) same next_is) run)

pub done_same : (places : Places) (k : Kept) (s : Session) → Keeps places k s → nat_le (width_of k.running) k.budget ≡ is_done s
done_same places k s h = ap₂ (λ iv b. nat_le (width_of iv) b) h.running h.budget

pub keeps_view : (places : Places) (v k : Kept) (s : Session) → v ≡ k → Keeps places k s → Keeps places v s
keeps_view places v k s same h = subst (λ w. Keeps places w s) (sym same) h

pub wide_from : (places : Places) (k : Kept) (s : Session) (done : Bool) → Keeps places k s → done ≡ nat_le (width_of k.running) k.budget → done ≡ false → is_done s ≡ false
wide_from places k s done h is wide = sym (done_same places k s h) ∙ sym is ∙ wide

-- a session that is done stays as it is
pub keeps_done : (places : Places) (k : Kept) (s : Session) → is_done s ≡ true → Keeps places k s → Keeps places k (stepped s)
keeps_done places k s done h = subst (λ b. Keeps places k (cond b s (expanded s))) (sym done) h

-- ---- what is told of it

pub told_done : (places : Places) (k : Kept) (s : Session) (slot : ℕ) (iv : Interval) → Keeps places k s → nat_le (width_of k.running) k.budget ≡ true → iv ≡ k.running
    → Done slot iv ≡ told slot s
told_done places k s slot iv h done is =
    let e : is_done s ≡ true = sym (done_same places k s h) ∙ done in
    subst (λ b. Done slot iv ≡ cond b (Done slot s.running) (Now slot s.running)) (sym e) (ap (Done slot) (is ∙ h.running))

pub told_now : (places : Places) (k : Kept) (s : Session) (slot : ℕ) (iv : Interval) → Keeps places k s → nat_le (width_of k.running) k.budget ≡ false → iv ≡ k.running
    → Now slot iv ≡ told slot s
told_now places k s slot iv h wide is =
    let e : is_done s ≡ false = sym (done_same places k s h) ∙ wide in
    subst (λ b. Now slot iv ≡ cond b (Done slot s.running) (Now slot s.running)) (sym e) (ap (Now slot) (is ∙ h.running))

-- ---- the opening

pub keeps_opened : (s : StoreParts) (k : Kept) (q : QueryTerm) (c : CutView ℕ) → IsSound s → IsCutFor q c → shown c.tracks ≡ cut_of (first_nodes (store_value s) q)
    → AreTracksIn (reached_from s.arena.nodes k.trees) c.tracks → IsOf k q c → k.trees ≡ trees_of s → interval_in (shown c.tracks) q ≡ Some k.running
    → Keeps s.arena.nodes k (opened (store_value s) q k.budget)
keeps_opened s k q c sound is rows tracks of trees interval =
    let m = store_value s in
    let t = there m q 0 (sound-value s sound) is.plain in
    record {
      few = subst (λ ts. length ts ≤ 16) (sym trees) (few_trees s sound);
      trees = subst (All (IsTreeOf s.arena.nodes)) (sym trees) (all_trees s sound);
      forest = ap (map (value_of s.arena.nodes)) trees ∙ store_trees s;
      store = sound-value s sound;
      budget = refl;
      plain = is.plain;
      limits = is.limits;
      admitted = subst (λ ts. IsAdmitted (facts_in ts) q) of.tracks is.admitted;
      spelled = sym of.query ∙ of.own;
      steps = 0;
      reached = refl;
      tracks = subst (AreTracksIn (reached_from s.arena.nodes k.trees)) of.tracks tracks;
      rows = ap shown (sym of.tracks) ∙ rows;
      running = is_interval q (first_nodes m q) k.running (ap (λ cut. interval_in cut q) (sym rows) ∙ interval);
      holds = subst (λ i. Has i (value_for m q)) (sym t.same) t.holds;
      narrow = within_itself (interval_of q (first_nodes m q));
    }
