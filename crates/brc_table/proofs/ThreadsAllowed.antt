-- What a step on a thread's word leaves: a look leaves the word as it is, and a store is of the hand's own thread. Each
-- goes on with what the word says.
use Rattle.std.proofs.Common.{◌≡◌, ◌≢◌, ℕ, ◌+◌, ◌<◌, ◌^◌, Bool, List, ◌∷◌, length, set, inl, inr, refl, sym, ap, ◌∙◌, subst, arith}
use Rattle.std.specs.Prelude.{◌==◌, ◌&&◌, ◌⊎◌, slice_index}
use Rattle.std.proofs.lemmas.Bool.{ne_eqb}
use Rattle.std.proofs.lemmas.Option.{slice_get_within}
use Rattle.brc_model.specs.declared.duty.Duty.{Duty}
use Rattle.brc_model.specs.declared.actor.Status.{Status}
use Rattle.brc_model.specs.declared.actor.Status.TheVariants.{Running, Leaving, Gone}
use Rattle.brc_model.specs.declared.address.Address.TheVariants.{ThreadWord}
use Rattle.brc_model.specs.Knowledge.{status_word}
use Rattle.brc_model.specs.declared.address.Address.{Address}
use Rattle.brc_model.specs.declared.layout.Layout.{Layout}
use Rattle.brc_model.specs.Duties.{address_of, new_word}
use Rattle.brc_table.specs.Plan.{Plan}
use Rattle.brc_table.specs.ModelLaws.{ModelLaws}
use Rattle.brc_table.specs.declared.view.View.{View}
use Rattle.brc_table.specs.Views.{event_of, view_by}
use Rattle.brc_table.specs.Rule.{thread_reading, reading}
use Rattle.brc_table.specs.Threads.{thread_word}
use Rattle.brc_table.specs.Begins.{Becomes}
use Rattle.brc_table.specs.Places.{place}
use Rattle.brc_table.proofs.FewRows.{few_first}
use Rattle.brc_table.proofs.Places.{place_within}
use Rattle.brc_table.proofs.ThreadsKept.{KeepsThreads, reading_some, says_three, thread_step}
use Rattle.brc_table.proofs.Stepping.{Does, place_of, read_of, has}
use Rattle.brc_table.proofs.Allowed.{IsNextAt, LeavesWord}

-- A thread that isn't gone has another status word.
alive_word : (s : Status) → s ≢ Gone → status_word s ≡ 3 → ⊥
alive_word Running alive e = omega (arith, e)
alive_word Leaving alive e = omega (arith, e)
alive_word Gone alive e = alive refl

-- A duty about a thread's word: which thread's it is, and what the duty leaves there.
pub record IsOnThread (layout : Layout) (t head : ℕ) (d : Duty) : Type 0 where
  pub thread : ℕ
  pub address : address_of layout t head d ≡ ThreadWord thread
  pub says : (found : ℕ)
      → thread_reading (new_word layout t head d found) ≡ new_word layout t head d (thread_reading found)
  pub kind : ((found : ℕ) → new_word layout t head d found ≡ found)
      ⊎ ((thread ≡ t) × ((found : ℕ) → 0 < new_word layout t head d found))

module _ (laws : ModelLaws) (plan : Plan) (v u : View)
    (d : Duty) (rest : List Duty) (index : ℕ) (becomes : Becomes plan v u) (next : IsNextAt u d rest index)
    (on : IsOnThread u.layout u.thread u.actor.head d) (f : ℕ → ℕ)
    (leaves : (found : ℕ) → found < 2 ^ 64 → f found ≡ new_word u.layout u.thread u.actor.head d found) where
  thread_says : (k : ℕ) → read_of u d k ≡ thread_reading k
  thread_says k = ap (λ (a : Address). reading a k) on.address

  -- The word that is left says what the duty leaves of what was said.
  left_says : (found : ℕ) → found < 2 ^ 64
      → read_of u d (f found) ≡ new_word u.layout u.thread u.actor.head d (read_of u d found)
  left_says found small =
      thread_says (f found) ∙ (ap thread_reading (leaves found small)
      ∙ (on.says found ∙ ap (new_word u.layout u.thread u.actor.head d) (sym (thread_says found))))

  -- The word of a thread that isn't gone doesn't say so.
  not_gone : (words : List ℕ) (views : List View) (i : ℕ) → Does plan words views i u d rest → on.thread ≡ u.thread
      → thread_word words on.thread ≡ 3 → ⊥
  not_gone words views i does own is =
      let s = does.stands in
      let word = (s.counts.kept.core.each u.thread u.actor (s.same_actor i u does.here)).0.word in
      let low : u.thread < 1 + s.machine.layout.workers =
      omega (
        arith,
        slice_get_within s.machine.actors u.thread u.actor (s.same_actor i u does.here),
        s.counts.kept.core.threads,
      ) in
      let says : status_word u.actor.status ≡ thread_reading (thread_word words u.thread) =
      sym word ∙ s.reads (ThreadWord u.thread) low in
      let three : thread_word words u.thread ≡ 3 = ap (thread_word words) (sym own) ∙ is in
      alive_word u.actor.status does.alive (says ∙ ap thread_reading three)

  -- The step keeps what the words of threads say.
  keeps_from : (words : List ℕ) (views : List View) (i : ℕ) (does : Does plan words views i u d rest)
      → slice_index words (place_of u d) < 2 ^ 64
      → (on.thread ≡ u.thread) ⊎ (f (thread_word words on.thread) ≡ thread_word words on.thread)
      → (0 < thread_word words on.thread → 0 < f (thread_word words on.thread))
      → (thread_word words on.thread ≡ 3 → f (thread_word words on.thread) ≡ 3)
      → KeepsThreads does.stands.machine.layout words
      (set words (place_of u d) (f (slice_index words (place_of u d)))) u
      (view_by u (d ∷ rest) (read_of u d (slice_index words (place_of u d))))
  keeps_from words views i does small whose stays stays_gone =
      let thread = on.thread in
      let raw = slice_index words (place_of u d) in
      let at : place_of u d ≡ thread = ap (place u.layout) on.address in
      let same : raw ≡ thread_word words thread = ap (slice_index words) at in
      let there : thread < length words =
      subst (λ (k : ℕ). k < length words) at
      (omega (
        arith,
        place_within does.stands.machine.layout (address_of u.layout u.thread u.actor.head d)
            does.stands.plain
            (few_first does.stands.accounts (1 + does.stands.machine.layout.workers) does.stands.machine
            does.stands.counts)
            (has laws.kept laws.within laws.guarded plan words views i u d rest does),
        ap (λ (l : Layout). place l (address_of u.layout u.thread u.actor.head d))
            (does.stands.same_layout i u does.here),
        does.stands.length_is,
      )) in
      subst (λ (k : ℕ). KeepsThreads does.stands.machine.layout words (set words k (f raw)) u
      (view_by u (d ∷ rest) (read_of u d raw))) (sym at)
      (thread_step does.stands.machine.layout words u (view_by u (d ∷ rest) (read_of u d raw))
      (event_of u d (read_of u d raw)) thread (f raw) there (record { thread = refl; given = refl; trace = refl })
      (record {
        address = on.address;
        quiet =
            ap (λ (b : Bool). b && (new_word u.layout u.thread u.actor.head d (read_of u d raw) == 1))
            (ne_eqb (read_of u d raw) 0 (λ none. omega (arith, none, thread_says raw, reading_some raw)));
        gone = λ three. says_three (f raw) (sym (thread_says (f raw)) ∙ (left_says raw small ∙ three));
        whose = elim whose [
          | inl mine ↦ inl mine
          | inr kept_so ↦ inr (ap f same ∙ kept_so)
        ];
        stays = λ pos. subst (λ (k : ℕ). 0 < f k) (sym same) (stays pos);
        stays_gone = λ is. ap f same ∙ stays_gone is;
      }))

  thread_keeps : (words : List ℕ) (views : List View) (i : ℕ) (does : Does plan words views i u d rest)
      → slice_index words (place_of u d) < 2 ^ 64
      → KeepsThreads does.stands.machine.layout words
      (set words (place_of u d) (f (slice_index words (place_of u d)))) u
      (view_by u (d ∷ rest) (read_of u d (slice_index words (place_of u d))))
  thread_keeps words views i does small =
      let word = thread_word words on.thread in
      let low : word < 2 ^ 64 =
      subst (λ (k : ℕ). k < 2 ^ 64) (ap (slice_index words) (ap (place u.layout) on.address)) small in
      elim on.kind [
        | inl looks ↦
            let same : f word ≡ word = leaves word low ∙ looks word in
            keeps_from words views i does small (inr same) (λ pos. omega (arith, same, pos)) (λ is. same ∙ is)
        | inr (own, some) ↦
            keeps_from words views i does small (inl own) (λ pos. omega (arith, leaves word low, some word))
            (λ is. absurd (not_gone words views i does own is))
      ]

  pub thread_leaves : LeavesWord laws plan v u d rest index becomes next f
  thread_leaves = ((λ found small known. left_says found small), thread_keeps)
