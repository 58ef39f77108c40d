use Rattle.std.proofs.Common.{◌≡◌, ◌<◌, ◌++◌, ◌∙◌, ℕ, List, ◌+◌, length, take, drop, get_or, ap, sym, subst, refl}
use Rattle.std.proofs.Common.{append_assoc, append-nil}
use Rattle.std.specs.Io.KnownBytes.{Appends}
use Rattle.std.proofs.KnownBytes.{Appends-trans}
use Rattle.brc_lang.specs.declared.module.Function.{Function}
use Rattle.brc_lang.specs.declared.version.Version.{Version}
use Rattle.brc_lang.specs.Grammar.{first_line, static_lines, top, function, functions, functions_below}
use Rattle.brc_lang.proofs.Written.{stops_early, stops_between, functions_so_far, functions_around}
use Rattle.brc_lang.proofs.writing.write.Goals as goal

-- the lines above the functions, and the functions before one
abbrev so_far : Version → List (List ℕ) → List Function → ℕ → List ℕ
so_far version statics fs i = top version statics ++ functions (take i fs)

pub loop-number-init : goal.loop-number-init
loop-number-init g c =
    let version = c.args.module.now.version in
    let statics = c.args.module.now.statics in
    subst (Appends (g.W.Write.contents c.args.writer.now) (g.W.Write.contents c.write_statics.new.writer))
    (ap (λ s. top version s) c.as_slice.ensures ∙ sym (append-nil (top version statics)))
    (Appends-trans _ _ _ (first_line version) (static_lines c.as_slice.result.now)
    c.in_ok-write_first_line.ensures.whole c.in_ok-write_statics.ensures.whole)

-- with one more function
next : (version : Version) (statics : List (List ℕ)) (fs : List Function) (i : ℕ) (f : Function) → i < length fs
    → f ≡ get_or fs i f
    → so_far version statics fs (i + 1) ≡ so_far version statics fs i ++ function (take i fs) f
next version statics fs i f inside item =
    ap (λ l. top version statics ++ l) (functions_so_far fs i f f inside item)
    ∙ sym (append_assoc (top version statics) (functions (take i fs)) (function (take i fs) f))

pub loop-number-preserved : goal.loop-number-preserved
loop-number-preserved g c =
    let version = c.args.module.now.version in
    let statics = c.args.module.now.statics in
    let fs = c.as_slice-functions.result.now in
    let i = c.loop-number.number in
    let f = c.index-functions-number.result in
    subst (Appends (g.W.Write.contents c.args.writer.now) (g.W.Write.contents c.write_function.new.writer))
    (sym (next version statics fs i f c.loop-number-test.true c.index-functions-number.is))
    (Appends-trans _ _ _ (so_far version statics fs i) (function (take i fs) f) c.loop-number.invariant
    c.in_ok-write_function.ensures.whole)

pub returns-in_err-write_first_line-clause-begun : goal.returns-in_err-write_first_line-clause-begun
returns-in_err-write_first_line-clause-begun g c =
    let m = c.args.module.now in
    stops_early _ _ _ _ (first_line m.version) (static_lines m.statics ++ functions m.functions)
    (append_assoc (first_line m.version) (static_lines m.statics) (functions m.functions))
    c.in_err-write_first_line.ensures.begun

pub returns-in_err-write_statics-clause-begun : goal.returns-in_err-write_statics-clause-begun
returns-in_err-write_statics-clause-begun g c =
    let m = c.args.module.now in
    stops_between _ _ _ _ _ (first_line m.version) (static_lines m.statics) (functions m.functions) refl
    c.in_ok-write_first_line.ensures.whole (rw c.as_slice.ensures at c.in_err-write_statics.ensures.begun)

-- a module's text: what is written so far, the next function and those below it
around : (version : Version) (statics : List (List ℕ)) (all fs : List Function) (i : ℕ) (f : Function) → fs ≡ all
    → i < length fs → f ≡ get_or fs i f
    → top version statics ++ functions all
    ≡ so_far version statics fs i ++ function (take i fs) f ++ functions_below (take (i + 1) fs) (drop (i + 1) fs)
around version statics all fs i f same inside item =
    let front = top version statics in
    let back = functions_below (take (i + 1) fs) (drop (i + 1) fs) in
    ap (λ l. front ++ functions l) (sym same)
    ∙ ap (λ l. front ++ l) (functions_around fs i f f inside item)
    ∙ sym (append_assoc front (functions (take i fs) ++ function (take i fs) f) back)
    ∙ ap (λ l. l ++ back) (sym (append_assoc front (functions (take i fs)) (function (take i fs) f)))

pub returns-in_err-write_function-clause-begun : goal.returns-in_err-write_function-clause-begun
returns-in_err-write_function-clause-begun g c =
    let version = c.args.module.now.version in
    let statics = c.args.module.now.statics in
    let fs = c.as_slice-functions.result.now in
    let i = c.loop-number.number in
    stops_between _ _ _ _ _ (so_far version statics fs i) (function (take i fs) c.index-functions-number.result)
    (functions_below (take (i + 1) fs) (drop (i + 1) fs))
    (around version statics c.args.module.now.functions fs i c.index-functions-number.result
    c.as_slice-functions.ensures c.loop-number-test.true c.index-functions-number.is)
    c.loop-number.invariant c.in_err-write_function.ensures.begun
