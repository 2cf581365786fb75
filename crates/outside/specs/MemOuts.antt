-- What an output in memory holds, and what a call puts there.
use Rattle.std.specs.Prelude.{◌≡◌, ℕ, ◌++◌, List, take, Option, Some, None, Result, Ok, Err}
use Rattle.outside.specs.Calls.{faults_by, numbers_of}
use Rattle.outside.specs.declared.memory_out.MemOut.{MemOut}
use Rattle.outside.specs.declared.output.PutErr.{PutErr}
use Rattle.outside.specs.declared.output.PutErr.TheVariants.{Failed, Memory}

abbrev pub bytes_in : MemOut → List ℕ
bytes_in o = o.bytes.items

-- the calls that are to fail, each with how many bytes of its piece go out first
abbrev pub failing_puts : MemOut → List (ℕ × ℕ)
failing_puts o = o.fail.items

abbrev pub puts_made : MemOut → ℕ
puts_made o = o.calls

-- how many places of the list hold the number of a call that was made
abbrev pub put_faults_of : MemOut → ℕ
put_faults_of o = faults_by (numbers_of (failing_puts o)) (puts_made o)

-- the bytes after a call that puts a piece, by the number of bytes that go out before it fails
abbrev pub IsPut : {T : Type 0} → Option ℕ → List ℕ → List ℕ → List ℕ → Result T PutErr → Type 0
IsPut None before piece after (Ok _) = after ≡ before ++ piece
IsPut None before piece after (Err Failed) = ⊥
IsPut None before piece after (Err Memory) = after ≡ before
IsPut (Some cut) before piece after (Ok _) = ⊥
IsPut (Some cut) before piece after (Err Failed) = after ≡ before ++ take cut piece
IsPut (Some cut) before piece after (Err Memory) = after ≡ before
