-- The colours of a text for people: escape sequences of ECMA-48 (Select Graphic Rendition), or none.
use Rattle.std.specs.Prelude.{ℕ, List, [], ◌∷◌, ◌++◌, codes}
use Rattle.brc_report.specs.declared.paint.Paint.{Paint}
use Rattle.brc_report.specs.declared.paint.Paint.TheVariants.{Plain, Ansi}
use Rattle.brc_report.specs.declared.paint.Role.{Role}
use Rattle.brc_report.specs.declared.paint.Role.TheVariants.{Rule, Part, Word, Life, State, Success, Fault, Code, Aside}

-- the escape sequence with these parameters
abbrev pub rendition : List ℕ → List ℕ
rendition parameters = 27 ∷ (codes "[" ++ parameters ++ codes "m")

abbrev pub role_mark : Role → List ℕ
role_mark Rule = rendition (codes "1")
role_mark Part = rendition (codes "36")
role_mark Word = rendition (codes "33")
role_mark Life = rendition (codes "35")
role_mark State = rendition (codes "36")
role_mark Success = rendition (codes "32")
role_mark Fault = rendition (codes "31")
role_mark Code = rendition (codes "1;31")
role_mark Aside = rendition (codes "2")

abbrev pub mark_text : Paint → Role → List ℕ
mark_text Plain r = []
mark_text Ansi r = role_mark r

abbrev pub reset_text : Paint → List ℕ
reset_text Plain = []
reset_text Ansi = rendition (codes "0")
