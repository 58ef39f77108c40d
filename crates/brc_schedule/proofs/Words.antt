-- The words of a schedule's lines: reading and spelling are inverse.
use Rattle.std.proofs.Common.{◌≡◌, ℕ, ◌^◌, ◌<◌, ◌≤◌, true, cond, leb, ◌⊎◌, List, [], ◌∷◌, Result, Ok, Err, refl, sym}
use Rattle.std.proofs.Common.{ap, subst, ◌∙◌, arith, inl, inr}
use Rattle.std.specs.Prelude.{codes}
use Rattle.std.specs.List.{AllByRecursion}
use Rattle.std.specs.Fmt.{decimal}
use Rattle.std.specs.Str.{bytes_eq}
use Rattle.std.proofs.lemmas.Bool.{leb-true, le-leb}
use Rattle.brc_lang.specs.declared.fault.FaultCode.{FaultCode}
use Rattle.brc_lang.specs.declared.fault.FaultCode.TheVariants.{UnknownWord, Number}
use Rattle.brc_lang.specs.Grammar.{is_name}
use Rattle.brc_lang.specs.InstructionWords.{number_in, number_between}
use Rattle.brc_lang.specs.RoundTrips.{IsPlain, TextsRoundTrip}
use Rattle.brc_model.specs.declared.thread.Choice.{Choice}
use Rattle.brc_model.specs.declared.thread.Choice.TheVariants as choices
use Rattle.brc_model.specs.Limits.{times_limit}
use Rattle.brc_schedule.specs.Limits.{last_row}
use Rattle.brc_schedule.specs.declared.schedule.PlannedCall.{PlannedCall}
use Rattle.brc_schedule.specs.declared.schedule.Steps.{Steps}
use Rattle.brc_schedule.specs.Text.{size_words, call_words, words_of, step_words, IsPlannedCall, IsChoiceOf, AreSteps}
use Rattle.brc_schedule.specs.Fault.{size_in, name_in, call_in, choice_in, steps_in}
use Rattle.brc_schedule.proofs.Results.{bind_ok, chosen, guarded, same_text}

choice_spelled : (word : List ℕ) (c : Choice) → choice_in word ≡ Ok c
    → ((word ≡ codes "ok") × (choices.Ok ≡ c)) ⊎ ((word ≡ codes "fault") × (choices.Fault ≡ c))
choice_spelled word c e = elim (chosen (bytes_eq word (codes "ok")) (Ok choices.Ok) _ (Ok c) e) [
  | inl h ↦ inl (same_text word (codes "ok") h.0, let s = h.1 in cc)
  | inr other ↦ elim (chosen (bytes_eq word (codes "fault")) (Ok choices.Fault) (Err UnknownWord) (Ok c) other.1) [
    | inl h ↦ inr (same_text word (codes "fault") h.0, let s = h.1 in cc)
    | inr never ↦ let n = never.1 in absurd cc
  ]
]

four_same : (a b c d e f g h : List ℕ) → a ≡ e → b ≡ f → c ≡ g → d ≡ h → (a ∷ b ∷ c ∷ d ∷ []) ≡ (e ∷ f ∷ g ∷ h ∷ [])
four_same a b c d e f g h p q r s = cc

three_same : (a b c d e f : List ℕ) → a ≡ d → b ≡ e → c ≡ f → (a ∷ b ∷ c ∷ []) ≡ (d ∷ e ∷ f ∷ [])
three_same a b c d e f p q r = cc

two_same : (a b c d : List ℕ) → a ≡ c → b ≡ d → (a ∷ b ∷ []) ≡ (c ∷ d ∷ [])
two_same a b c d p q = cc

abbrev pub SizeSpelled : List ℕ → ℕ → List (List ℕ) → ℕ → Type 0
SizeSpelled name most ws n = (ws ≡ size_words name n) × (0 < n) × (n ≤ most)

abbrev pub CallSpelled : ℕ → List (List ℕ) → PlannedCall → Type 0
CallSpelled worker ws call = (ws ≡ call_words worker call) × IsPlannedCall call

call_is : (x y : PlannedCall) → ◌≡◌ {A = Result PlannedCall FaultCode} (Ok x) (Ok y) → x ≡ y
call_is x y e = cc

abbrev pub StepsSpelled : ℕ → List (List ℕ) → Steps → Type 0
StepsSpelled workers ws steps = (ws ≡ step_words steps) × AreSteps workers steps

steps_is : (x y : Steps) → ◌≡◌ {A = Result Steps FaultCode} (Ok x) (Ok y) → x ≡ y
steps_is x y e = cc

module _ (laws : TextsRoundTrip) where
  -- ---- single words

  between_spelled : (low high : ℕ) (word : List ℕ) (n : ℕ) → high < 2 ^ 64 → number_between low high word ≡ Ok n
      → (word ≡ decimal n) × (low ≤ n) × (n ≤ high)
  between_spelled low high word n small e =
      let b = bind_ok (number_in high word) (λ k. cond (leb low k) (Ok k) (Err Number)) n e in
      let g = guarded (leb low b.0) Number b.0 n b.2 in
      let s = laws.number_laws.spelled high word b.0 small b.1 in
      (s.0 ∙ ap decimal g.1, omega (arith, leb-true low b.0 g.0, g.1), omega (arith, s.1, g.1))

  between_again : (low high n : ℕ) → low ≤ n → n ≤ high → high < 2 ^ 64 → number_between low high (decimal n) ≡ Ok n
  between_again low high n from to small = rw (laws.number_laws.found high n to (omega arith), le-leb low n from) refl

  -- ---- from words to what they say

  pub size_spelled : (name : List ℕ) (most : ℕ) (ws : List (List ℕ)) (n : ℕ) → most < 2 ^ 64
      → size_in name most ws ≡ Ok n
      → SizeSpelled name most ws n
  size_spelled name most [] n small e = absurd cc
  size_spelled name most (w ∷ []) n small e = absurd cc
  size_spelled name most (w ∷ size ∷ []) n small e =
      elim (chosen (bytes_eq w name) (number_between 1 most size) (Err UnknownWord) (Ok n) e) [
        | inl h ↦
            let s = between_spelled 1 most size n small h.1 in
            let named = same_text w name h.0 in
            (rw (named, s.0) refl, omega (arith, s.1), s.2)
        | inr never ↦ let f = never.1 in absurd cc
      ]
  size_spelled name most (w ∷ size ∷ x ∷ ws) n small e = absurd cc

  pub call_spelled : (worker : ℕ) (ws : List (List ℕ)) (call : PlannedCall) → worker < 2 ^ 64
      → call_in worker ws ≡ Ok call → CallSpelled worker ws call
  call_spelled worker [] call small e = absurd cc
  call_spelled worker (w ∷ []) call small e = absurd cc
  call_spelled worker (w ∷ turn ∷ []) call small e = absurd cc
  call_spelled worker (w ∷ turn ∷ name ∷ []) call small e = absurd cc
  call_spelled worker (w ∷ turn ∷ name ∷ times ∷ []) call small e =
      elim (chosen (bytes_eq w (codes "call")) _ (Err UnknownWord) (Ok call) e) [
        | inl h ↦
            let t = bind_ok (number_between worker worker turn) _ call h.1 in
            let n = bind_ok (name_in name) _ call t.2 in
            let k = bind_ok (number_between 1 times_limit times) _ call n.2 in
            let turned = between_spelled worker worker turn t.0 small t.1 in
            let named = guarded (is_name name) UnknownWord name n.0 n.1 in
            let timed = between_spelled 1 times_limit times k.0 (omega arith) k.1 in
            let in_turn : t.0 ≡ worker = omega (arith, turned.1, turned.2) in
            let made : PlannedCall = record { name = n.0; times = k.0 } in
            let fits : IsPlannedCall made =
            record { name = ap is_name (sym named.1) ∙ named.0; some = omega (arith, timed.1); most = timed.2 } in
            let same : (w ∷ turn ∷ name ∷ times ∷ []) ≡ call_words worker made =
            four_same w turn name times (codes "call") (decimal worker) n.0 (decimal k.0)
            (same_text w (codes "call") h.0) (turned.0 ∙ ap decimal in_turn) named.1 timed.0 in
            subst (CallSpelled worker (w ∷ turn ∷ name ∷ times ∷ [])) (call_is made call k.2) (same, fits)
        | inr never ↦ let f = never.1 in absurd cc
      ]
  call_spelled worker (w ∷ turn ∷ name ∷ times ∷ x ∷ ws) call small e = absurd cc

  -- a line of this choice, whose word is given
  chose_spelled : (workers t k : ℕ) (choice : List ℕ) (c : Choice) → t ≤ workers → 0 < k → k ≤ times_limit
      → choice_in choice ≡ Ok c
      → StepsSpelled workers (codes "step" ∷ decimal t ∷ choice ∷ decimal k ∷ [])
      (record { thread = t; choice = c; times = k })
  chose_spelled workers t k choice c thread some most e =
      let Spelled : Choice
      → Type 0 = λ d. StepsSpelled workers (codes "step" ∷ decimal t ∷ choice ∷ decimal k ∷ [])
      (record { thread = t; choice = d; times = k }) in
      elim (choice_spelled choice c e) [
        | inl h ↦ subst Spelled h.1 (rw h.0 refl, record { thread = thread; some = some; most = most; choice = tt })
        | inr h ↦ subst Spelled h.1 (rw h.0 refl, record { thread = thread; some = some; most = most; choice = tt })
      ]

  pub steps_spelled : (workers : ℕ) (ws : List (List ℕ)) (steps : Steps) → workers < 2 ^ 64
      → steps_in workers ws ≡ Ok steps → StepsSpelled workers ws steps
  steps_spelled workers [] steps small e = absurd cc
  steps_spelled workers (w ∷ []) steps small e = absurd cc
  steps_spelled workers (w ∷ thread ∷ []) steps small e =
      elim (chosen (bytes_eq w (codes "stop")) _ (Err UnknownWord) (Ok steps) e) [
        | inl h ↦
            let t = bind_ok (number_between 0 workers thread) _ steps h.1 in
            let numbered = between_spelled 0 workers thread t.0 small t.1 in
            let made : Steps = record { thread = t.0; choice = choices.Stop; times = 1 } in
            let fits : AreSteps workers made =
            record { thread = numbered.2; some = omega arith; most = omega arith; choice = refl } in
            let same : (w ∷ thread ∷ []) ≡ step_words made =
            two_same w thread (codes "stop") (decimal t.0) (same_text w (codes "stop") h.0) numbered.0 in
            subst (StepsSpelled workers (w ∷ thread ∷ [])) (steps_is made steps t.2) (same, fits)
        | inr never ↦ let f = never.1 in absurd cc
      ]
  steps_spelled workers (w ∷ thread ∷ row ∷ []) steps small e =
      elim (chosen (bytes_eq w (codes "claim")) _ (Err UnknownWord) (Ok steps) e) [
        | inl h ↦
            let t = bind_ok (number_between 0 workers thread) _ steps h.1 in
            let r = bind_ok (number_between 0 last_row row) _ steps t.2 in
            let numbered = between_spelled 0 workers thread t.0 small t.1 in
            let rowed = between_spelled 0 last_row row r.0 (omega arith) r.1 in
            let made : Steps = record { thread = t.0; choice = choices.Claim r.0; times = 1 } in
            let fits : AreSteps workers made =
            record { thread = numbered.2; some = omega arith; most = omega arith; choice = (refl, rowed.2) } in
            let same : (w ∷ thread ∷ row ∷ []) ≡ step_words made =
            three_same w thread row (codes "claim") (decimal t.0) (decimal r.0) (same_text w (codes "claim") h.0)
            numbered.0 rowed.0 in
            subst (StepsSpelled workers (w ∷ thread ∷ row ∷ [])) (steps_is made steps r.2) (same, fits)
        | inr never ↦ let f = never.1 in absurd cc
      ]
  steps_spelled workers (w ∷ thread ∷ choice ∷ times ∷ []) steps small e =
      elim (chosen (bytes_eq w (codes "step")) _ (Err UnknownWord) (Ok steps) e) [
        | inl h ↦
            let t = bind_ok (number_between 0 workers thread) _ steps h.1 in
            let c = bind_ok (choice_in choice) _ steps t.2 in
            let k = bind_ok (number_between 1 times_limit times) _ steps c.2 in
            let numbered = between_spelled 0 workers thread t.0 small t.1 in
            let timed = between_spelled 1 times_limit times k.0 (omega arith) k.1 in
            let made : Steps = record { thread = t.0; choice = c.0; times = k.0 } in
            let same : (w ∷ thread ∷ choice ∷ times ∷ []) ≡ codes "step" ∷ decimal t.0 ∷ choice ∷ decimal k.0 ∷ [] =
            four_same w thread choice times (codes "step") (decimal t.0) choice (decimal k.0)
            (same_text w (codes "step") h.0) numbered.0 refl timed.0 in
            let spelled = chose_spelled workers t.0 k.0 choice c.0 numbered.2 (omega (arith, timed.1)) timed.2 c.1 in
            subst (StepsSpelled workers (w ∷ thread ∷ choice ∷ times ∷ [])) (steps_is made steps k.2)
            (same ∙ spelled.0, spelled.1)
        | inr never ↦ let f = never.1 in absurd cc
      ]
  steps_spelled workers (w ∷ thread ∷ choice ∷ times ∷ x ∷ ws) steps small e = absurd cc

  -- ---- and back

  pub size_again : (name : List ℕ) (most n : ℕ) → bytes_eq name name ≡ true → 0 < n → n ≤ most → most < 2 ^ 64
      → size_in name most (size_words name n) ≡ Ok n
  size_again name most n named some few small = rw (named, between_again 1 most n (omega arith) few small) refl

  pub call_again : (worker : ℕ) (call : PlannedCall) → worker < 2 ^ 64 → IsPlannedCall call
      → call_in worker (call_words worker call) ≡ Ok call
  call_again worker call small fits =
      let some = fits.some in
      rw (
        between_again worker worker worker (omega arith) (omega arith) small,
        fits.name,
        between_again 1 times_limit call.times (omega arith) fits.most (omega arith),
      ) refl

  words_again : (workers thread times : ℕ) (c : Choice) → workers < 2 ^ 64 → thread ≤ workers → 0 < times
      → times ≤ times_limit → IsChoiceOf times c
      → steps_in workers (words_of thread times c) ≡ Ok (record { thread = thread; choice = c; times = times })
  words_again workers thread times choices.Ok small who some most fits =
      rw (
        between_again 0 workers thread (omega arith) who small,
        between_again 1 times_limit times (omega arith) most (omega arith),
      ) refl
  words_again workers thread times choices.Fault small who some most fits =
      rw (
        between_again 0 workers thread (omega arith) who small,
        between_again 1 times_limit times (omega arith) most (omega arith),
      ) refl
  words_again workers thread times (choices.Claim row) small who some most fits =
      rw (
        between_again 0 workers thread (omega arith) who small,
        between_again 0 last_row row (omega arith) fits.1 (omega arith),
        fits.0,
      ) refl
  words_again workers thread times choices.Stop small who some most fits =
      rw (between_again 0 workers thread (omega arith) who small, fits) refl

  pub steps_again : (workers : ℕ) (steps : Steps) → workers < 2 ^ 64 → AreSteps workers steps
      → steps_in workers (step_words steps) ≡ Ok steps
  steps_again workers steps small fits =
      words_again workers steps.thread steps.times steps.choice small fits.thread fits.some fits.most fits.choice

  -- ---- a line of such words

  pub size_plain : (name : List ℕ) (n : ℕ) → IsPlain name → n < 2 ^ 64 → AllByRecursion IsPlain (size_words name n)
  size_plain name n plain small = (plain, (laws.number_laws.plain n small, tt))

  pub call_plain : (worker : ℕ) (call : PlannedCall) → worker < 2 ^ 64 → IsPlannedCall call
      → AllByRecursion IsPlain (call_words worker call)
  call_plain worker call small fits =
      let most = fits.most in (
        (refl, refl),
        (
          laws.number_laws.plain worker small,
          (
            laws.names_plain call.name fits.name,
            (laws.number_laws.plain call.times (omega arith), tt),
          ),
        ),
      )

  words_plain : (thread times : ℕ) (c : Choice) → thread < 2 ^ 64 → times ≤ times_limit → IsChoiceOf times c
      → AllByRecursion IsPlain (words_of thread times c)
  words_plain thread times choices.Ok small most fits = (
    (refl, refl),
    (
      laws.number_laws.plain thread small,
      ((refl, refl), (laws.number_laws.plain times (omega arith), tt)),
    ),
  )
  words_plain thread times choices.Fault small most fits = (
    (refl, refl),
    (
      laws.number_laws.plain thread small,
      ((refl, refl), (laws.number_laws.plain times (omega arith), tt)),
    ),
  )
  words_plain thread times (choices.Claim row) small most fits =
      ((refl, refl), (laws.number_laws.plain thread small, (laws.number_laws.plain row (omega (arith, fits.1)), tt)))
  words_plain thread times choices.Stop small most fits = ((refl, refl), (laws.number_laws.plain thread small, tt))

  pub steps_plain : (workers : ℕ) (steps : Steps) → workers < 2 ^ 64 → AreSteps workers steps
      → AllByRecursion IsPlain (step_words steps)
  steps_plain workers steps small fits =
      let thread = fits.thread in words_plain steps.thread steps.times steps.choice (omega arith) fits.most fits.choice
