-- What a screen answers, and how that is reported.
use Rattle.std.specs.Prelude.{ℕ, Bool, true, false, Ok, Err, Result}
use Rattle.values.specs.declared.refusal.Cause.{Cause}
use Rattle.values.specs.Refusals.{cause_number}
use Rattle.screens.specs.declared.view.Extent.{Extent}
use Rattle.screens.specs.declared.view.QuoteRefusal.{QuoteRefusal}

-- a screen's answer: a pass, or the cause of its refusal
abbrev pub Verdict : Type 0
Verdict = Result Unit Cause

abbrev pub passes : Verdict
passes = Ok tt

-- a quote screen's answer: a pass, or the cause of its refusal and how far that reaches
abbrev pub Ruling : Type 0
Ruling = Result Unit QuoteRefusal

-- refused for the cause given where the test is met
abbrev pub refused_if : Cause → Bool → Verdict
refused_if c true = Err c
refused_if c false = passes

abbrev pub refuses : Verdict → Bool
refuses (Ok pass) = false
refuses (Err c) = true

-- the number of an answer, 0 for a pass
abbrev pub number : Verdict → ℕ
number (Ok pass) = 0
number (Err c) = cause_number c

-- a verdict with how far a refusal reaches
abbrev pub ruling_by : Verdict → Extent → Ruling
ruling_by (Ok pass) e = Ok tt
ruling_by (Err c) e = Err (record { cause = c; extent = e })
