-- A width changes only by an update that two different officials approved.
use Rattle.std.specs.Prelude.{◌≡◌, ℕ, ◌<◌, ◌≤◌, true, ◌⊎◌, List, ◌∷◌, length}
use Rattle.values.specs.declared.call.Call.TheVariants as call
use Rattle.values.specs.declared.call.Update.{Update}
use Rattle.values.specs.declared.reference.Reference.{Reference}
use Rattle.collars.specs.Updates.{lawful_width}
use Rattle.market.specs.States.{Making}
use Rattle.laws.specs.Histories.{Entry, History, Made}
use Rattle.laws.specs.Admissions.{is_taken}
use Rattle.laws.specs.Views.{width_of}
use Rattle.laws.specs.Runs.{Asked, run}

-- the call put in force an update of the series s, of a width of 1 to 1,000 or the ladder, that two different officials approved
pub record Updated (m : Making) (s : ℕ) (e : Entry) (before : History) : Type 0 where
  pub update : Update
  pub asked : e.call ≡ call.Width update
  pub series : update.series ≡ s
  pub taken : is_taken e.answer ≡ true
  pub lawful : lawful_width update.width ≡ true
  pub official : update.first ≤ 15
  pub other : update.second ≤ 15
  pub different : update.first ≡ update.second → ⊥
  pub listed : s < length m.series
  pub gives : width_of s (e ∷ before) ≡ update.width

abbrev pub WidthsChangeByApproval : Making → History → Type 0
WidthsChangeByApproval m h = (s : ℕ) (e : Entry) (before : History) → Made e before h → (width_of s (e ∷ before) ≡ width_of s before) ⊎ Updated m s e before

abbrev pub EveryRunApprovesWidths : Type 0
EveryRunApprovesWidths = (m : Making) (refs : ℕ → Reference) (asked : List Asked) → WidthsChangeByApproval m (run m refs asked).history
