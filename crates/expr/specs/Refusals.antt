-- What a refusal says.
use Rattle.std.specs.Prelude.{Option, Some, None, Result, Ok, Err}
use Rattle.semantics.specs.Admission.{NotAdmitted, unknown, high_rank, outside, too_great}
use Rattle.expr.specs.declared.admission.AdmitErr.{AdmitErr}
use Rattle.expr.specs.declared.admission.AdmitErr.TheVariants.{Unknown, Rank, Domain, Range}

abbrev pub refusal_by : AdmitErr → NotAdmitted
refusal_by (Unknown name) = unknown name
refusal_by (Rank s) = high_rank s
refusal_by (Domain s lo hi) = outside s lo hi
refusal_by (Range node) = too_great node

-- the refusal that an answer tells, None for none
abbrev pub refusal_told : {T : Type 0} → Result T AdmitErr → Option NotAdmitted
refusal_told (Ok x) = None
refusal_told (Err e) = Some (refusal_by e)
