-- Histories of stores.
use Rattle.std.proofs.Common.{◌≡◌, ℕ, ◌≤◌, List, [], ◌∷◌, ◌++◌, refl, arith}
use Rattle.store_file.specs.StoreValue.{StoreValue, IsStoreValue}
use Rattle.store_file.proofs.AddedLaws.{adding-keeps}
use Rattle.store_file.proofs.GrownLaws.{growing-keeps}
use Rattle.query_cli.specs.Replay.{Accepted, begins, adds, grows, empty_store, step, replay_from, replay, IsAccepted, AreAccepted, IsHistory, HistoriesMakeStores}

replay_from-more : (m : StoreValue) (cs : List Accepted) (c : Accepted) → replay_from m (cs ++ c ∷ []) ≡ step (replay_from m cs) c
replay_from-more m [] c = refl
replay_from-more m (d ∷ cs) c = replay_from-more (step m d) cs c

-- one more command is one more step
pub replay-more : (h : List Accepted) (c : Accepted) → replay (h ++ c ∷ []) ≡ step (replay h) c
replay-more h c = replay_from-more (empty_store 0 0) h c

AreAccepted-more : (m : StoreValue) (cs : List Accepted) (c : Accepted) → AreAccepted m cs → IsAccepted (replay_from m cs) c → AreAccepted m (cs ++ c ∷ [])
AreAccepted-more m [] c are is = (is, tt)
AreAccepted-more m (d ∷ cs) c are is = (are.0, AreAccepted-more (step m d) cs c are.1 is)

-- a history goes on with each command that its store accepts
pub IsHistory-more : (h : List Accepted) (c : Accepted) → IsHistory h → IsAccepted (replay h) c → IsHistory (h ++ c ∷ [])
IsHistory-more [] c history is = absurd history
IsHistory-more (begins scale degree ∷ cs) c history is = AreAccepted-more (empty_store 0 0) (begins scale degree ∷ cs) c history is
IsHistory-more (adds name xs ∷ cs) c history is = absurd history
IsHistory-more (grows name xs ∷ cs) c history is = absurd history

empty-store : (scale degree : ℕ) → scale ≤ 6 → degree ≤ 2 → IsStoreValue (empty_store scale degree)
empty-store scale degree few square = record { scale = few; degree = square; few = omega arith; names = tt; trees = tt }

step-keeps : (m : StoreValue) (c : Accepted) → IsStoreValue m → IsAccepted m c → IsStoreValue (step m c)
step-keeps m (begins scale degree) is accepted = empty-store scale degree accepted.0 accepted.1
step-keeps m (adds name xs) is accepted = adding-keeps m name xs is accepted
step-keeps m (grows name xs) is accepted = growing-keeps m name xs is accepted

replay_from-keeps : (m : StoreValue) (cs : List Accepted) → IsStoreValue m → AreAccepted m cs → IsStoreValue (replay_from m cs)
replay_from-keeps m [] is are = is
replay_from-keeps m (c ∷ cs) is are = replay_from-keeps (step m c) cs (step-keeps m c is are.0) are.1

pub histories-make-stores : HistoriesMakeStores
histories-make-stores [] history = absurd history
histories-make-stores (begins scale degree ∷ cs) history = replay_from-keeps (empty_store 0 0) (begins scale degree ∷ cs) (empty-store 0 0 (omega arith) (omega arith)) history
histories-make-stores (adds name xs ∷ cs) history = absurd history
histories-make-stores (grows name xs ∷ cs) history = absurd history
