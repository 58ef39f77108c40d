-- Which references move at a step on a word.
use Rattle.std.specs.Prelude.{ℕ, zero, suc, ◌==◌, if◌then◌else◌, List, [], ◌∷◌, ◌++◌}
use Rattle.brc_lang.specs.declared.kind.Kind.{Kind}
use Rattle.brc_word.specs.Words.{is_immortal_word}
use Rattle.brc_model.specs.declared.duty.Holding.{Holding}
use Rattle.brc_model.specs.declared.duty.Holding.TheVariants.{ByVariable, AsCaller, InFlight}
use Rattle.brc_model.specs.declared.duty.Reason.TheVariants.{Own}
use Rattle.brc_model.specs.declared.duty.Duty.{Duty}
use Rattle.brc_model.specs.declared.duty.Duty.TheVariants.{RetainLoad, RetainStore, RetainAdd, ReleaseLoad, ReleaseStore, SharedExchange, SettleCell, SettleEnd, BirthLocal, CellSwap}
use Rattle.brc_model.specs.declared.address.Address.{Address}
use Rattle.brc_model.specs.declared.address.Address.TheVariants.{KindOf}
use Rattle.brc_model.specs.Kinds.{kind_of_word}
use Rattle.brc_model.specs.AbstractState.{Move, Born, Gain, Lose, PassOn, Finalise, ByThread, ByCell}

-- ---- the moves of references of a thread

abbrev pub put_in_flight : ℕ → Holding → ℕ → List Move
put_in_flight t InFlight x = []
put_in_flight t (ByVariable depth v) x =
    PassOn (record { holder = ByThread t (ByVariable depth v); object = x }) (ByThread t InFlight) ∷ []
put_in_flight t AsCaller x = PassOn (record { holder = ByThread t AsCaller; object = x }) (ByThread t InFlight) ∷ []

abbrev pub birth : ℕ → Holding → ℕ → Kind → List Move
birth t h x kind = Born (record { holder = ByThread t h; object = x }) kind ∷ []

-- a reference goes from one of the thread's holdings to another
abbrev pub pass_on : ℕ → Holding → Holding → ℕ → List Move
pass_on t from to x = PassOn (record { holder = ByThread t from; object = x }) (ByThread t to) ∷ []

abbrev pub gain : ℕ → Holding → ℕ → List Move
gain t h x = Gain (record { holder = ByThread t h; object = x }) ∷ []

abbrev pub lose : ℕ → ℕ → List Move
lose t x = Lose (record { holder = ByThread t InFlight; object = x }) ∷ []

-- what an emptied cell held, a row plus 1 or nothing, is in flight from then on
abbrev pub take_out : ℕ → ℕ → ℕ → ℕ → List Move
take_out t x i zero = []
take_out t x i (suc y) = PassOn (record { holder = ByCell x i; object = y }) (ByThread t InFlight) ∷ []

-- the thread's reference goes into a cell
abbrev pub put_in : ℕ → Holding → ℕ → ℕ → ℕ → List Move
put_in t h y x i = PassOn (record { holder = ByThread t h; object = y }) (ByCell x i) ∷ []

-- ---- the moves of references of a step

-- Returns the moves that the duty's step makes. The kind of an object that is born is read in the memory.
abbrev pub reference_effects : (Address → ℕ) → ℕ → Duty → ℕ → List Move
reference_effects memory t (RetainLoad x h) found = if is_immortal_word found then gain t h x else []
reference_effects memory t (RetainStore x h w) found = gain t h x
reference_effects memory t (RetainAdd x h) found = gain t h x
reference_effects memory t (ReleaseLoad x h) found =
    put_in_flight t h x ++ (if is_immortal_word found then lose t x else [])
reference_effects memory t (ReleaseStore x w) found = lose t x
reference_effects memory t (SharedExchange x Own w) found = if found == w then lose t x else []
reference_effects memory t (SettleCell x i n) found = take_out t x i found
reference_effects memory t (SettleEnd x) found = Finalise x ∷ []
reference_effects memory t (BirthLocal x h) found = birth t h x (kind_of_word (memory (KindOf x)))
reference_effects memory t (CellSwap x i y h) found = put_in t h y x i ++ take_out t x i found
reference_effects memory t _ found = []
