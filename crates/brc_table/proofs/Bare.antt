-- Duties that are the same but for what their step doesn't need: their words, and what becomes of the thread, are the
-- same.
use Rattle.std.proofs.Common.{◌≡◌, ℕ, Bool, List, ◌∷◌, refl, ◌∙◌, subst}
use Rattle.brc_model.specs.declared.duty.Duty.{Duty}
use Rattle.brc_model.specs.declared.duty.Duty.TheVariants.{RetainLoad}
use Rattle.brc_model.specs.declared.actor.Status.{Status}
use Rattle.brc_model.specs.declared.layout.Layout.{Layout}
use Rattle.brc_model.specs.Duties.{address_of, new_word, new_head}
use Rattle.brc_model.specs.Machine.{status_by, used_by}
use Rattle.brc_model.specs.Within.{Suits}
use Rattle.brc_model.specs.Stores.{Overwrites}
use Rattle.brc_model.specs.OpenWork.{is_about}
use Rattle.brc_model.specs.FieldLaws.{use_of}
use Rattle.brc_table.specs.Plays.{overwritten_by}
use Rattle.brc_table.specs.Uses.{first_due}
use Rattle.brc_table.specs.Accesses.{HasAccess, bare, row_of}

-- What a step needs of duty d is the same of duty e.
pub record IsLike (d e : Duty) : Type 0 where
  pub address : (layout : Layout) (t head : ℕ) → address_of layout t head d ≡ address_of layout t head e
  pub word : (layout : Layout) (t head found : ℕ) → new_word layout t head d found ≡ new_word layout t head e found
  pub head : (head found : ℕ) → new_head head d found ≡ new_head head e found
  pub used : (used : ℕ) → used_by used d ≡ used_by used e
  pub status : (s : Status) → status_by s d ≡ status_by s e
  pub fields : (found : ℕ) → use_of d found ≡ use_of e found
  pub due : (rest others : List Duty) (found : ℕ) → first_due (d ∷ rest) found ≡ first_due (e ∷ others) found
  pub before : (t : ℕ) (rest others : List Duty) → overwritten_by t (d ∷ rest) ≡ overwritten_by t (e ∷ others)
  pub suits : (t : ℕ) (running : Bool) (n found : ℕ) → Suits t running n d found → Suits t running n e found
  pub overwrites : (t found : ℕ) → Overwrites t d found → Overwrites t e found
  pub row : row_of d ≡ row_of e
  pub about : (x : ℕ) → is_about x d ≡ is_about x e
  pub has : HasAccess d → HasAccess e

like_bare : (d : Duty) → IsLike d (bare d)
like_bare (RetainLoad x h) = record {
  address = λ layout t head. refl;
  word = λ layout t head found. refl;
  head = λ head found. refl;
  used = λ used. refl;
  status = λ s. refl;
  fields = λ found. refl;
  due = λ rest others found. refl;
  before = λ t rest others. refl;
  suits = λ t running n found is. is;
  overwrites = λ t found is. is;
  row = refl;
  about = λ x. refl;
  has = λ is. is;
}
like_bare _ = record {
  address = λ layout t head. refl;
  word = λ layout t head found. refl;
  head = λ head found. refl;
  used = λ used. refl;
  status = λ s. refl;
  fields = λ found. refl;
  due = λ rest others found. refl;
  before = λ t rest others. refl;
  suits = λ t running n found is. is;
  overwrites = λ t found is. is;
  row = refl;
  about = λ x. refl;
  has = λ is. is;
}

bare_like : (d : Duty) → IsLike (bare d) d
bare_like (RetainLoad x h) = record {
  address = λ layout t head. refl;
  word = λ layout t head found. refl;
  head = λ head found. refl;
  used = λ used. refl;
  status = λ s. refl;
  fields = λ found. refl;
  due = λ rest others found. refl;
  before = λ t rest others. refl;
  suits = λ t running n found is. is;
  overwrites = λ t found is. is;
  row = refl;
  about = λ x. refl;
  has = λ is. is;
}
bare_like _ = record {
  address = λ layout t head. refl;
  word = λ layout t head found. refl;
  head = λ head found. refl;
  used = λ used. refl;
  status = λ s. refl;
  fields = λ found. refl;
  due = λ rest others found. refl;
  before = λ t rest others. refl;
  suits = λ t running n found is. is;
  overwrites = λ t found is. is;
  row = refl;
  about = λ x. refl;
  has = λ is. is;
}

like_by : (a b c : Duty) → IsLike a b → IsLike b c → IsLike a c
like_by a b c one other = record {
  address = λ layout t head. one.address layout t head ∙ other.address layout t head;
  word = λ layout t head found. one.word layout t head found ∙ other.word layout t head found;
  head = λ head found. one.head head found ∙ other.head head found;
  used = λ used. one.used used ∙ other.used used;
  status = λ s. one.status s ∙ other.status s;
  fields = λ found. one.fields found ∙ other.fields found;
  due = λ rest others found. one.due rest others found ∙ other.due others others found;
  before = λ t rest others. one.before t rest others ∙ other.before t others others;
  suits = λ t running n found is. other.suits t running n found (one.suits t running n found is);
  overwrites = λ t found is. other.overwrites t found (one.overwrites t found is);
  row = one.row ∙ other.row;
  about = λ x. one.about x ∙ other.about x;
  has = λ is. other.has (one.has is);
}

-- Two duties with one bare duty are alike.
pub alike : (d e : Duty) → bare d ≡ bare e → IsLike d e
alike d e same = like_by d (bare e) e (subst (IsLike d) same (like_bare d)) (bare_like e)
