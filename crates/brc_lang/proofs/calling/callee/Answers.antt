use Rattle.std.proofs.Common.{rules, List, ℕ, Bor, map}
use Rattle.brc_lang.proofs.Callees.{unknown, miscounted, too_deep, called}
use Rattle.brc_lang.proofs.calling.callee.Goals as goal

pub returns-in_default : goal.returns-in_default
returns-in_default c =
    unknown c.args.above.now.functions c.args.name.now (map (λ (w : Bor (List ℕ)). w.now) c.args.words.now)
    (search rules)

pub returns-then-parameters-words : goal.returns-then-parameters-words
returns-then-parameters-words c =
    miscounted (λ (w : Bor (List ℕ)). w.now) c.args.above.now.functions c.args.name.now c.args.words.now
    c.in-Some.number c.index-as_slice-number.result (search rules) (search rules) (search rules)

pub returns-then-above-number-ge-MOST_DEPTH : goal.returns-then-above-number-ge-MOST_DEPTH
returns-then-above-number-ge-MOST_DEPTH c =
    too_deep (λ (w : Bor (List ℕ)). w.now) c.args.above.now.functions c.args.name.now c.args.words.now
    c.in-Some.number c.index-as_slice-number.result (search rules) (search rules) (search rules) (search rules)

pub returns : goal.returns
returns c =
    called (λ (w : Bor (List ℕ)). w.now) c.args.above.now.functions c.args.name.now c.args.words.now
    c.in-Some.number c.index-as_slice-number.result c.arguments.result (search rules) (search rules) (search rules)
    (search rules) (search rules)
