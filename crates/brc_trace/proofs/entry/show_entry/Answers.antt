use Rattle.std.proofs.Common.{◌≡◌, ◌++◌, ◌∙◌, ℕ, List, Result, Ok, Err, OnOk, codes, ap, append_assoc}
use Rattle.brc_trace.specs.EntryTexts.{opening_text, naming_text, event_text, entry_text}
use Rattle.brc_trace.proofs.entry.show_entry.Goals as goal

-- four texts added one after another
four_added : {X E : Type 0} (r : Result X E) (old opening naming event feed one two three last : List ℕ)
    → one ≡ old ++ opening → two ≡ one ++ naming → three ≡ two ++ event → OnOk r (last ≡ three ++ feed)
    → OnOk r (last ≡ old ++ (opening ++ naming ++ (event ++ feed)))
four_added (Err e) old opening naming event feed one two three last first second third fourth = tt
four_added (Ok x) old opening naming event feed one two three last first second third fourth =
    fourth
    ∙ ap (λ l. l ++ feed)
    (third ∙ ap (λ l. l ++ event) (second ∙ ap (λ l. l ++ naming) first))
    ∙ append_assoc ((old ++ opening) ++ naming) event feed
    ∙ ap (λ l. l ++ (event ++ feed)) (append_assoc old opening naming)
    ∙ append_assoc old (opening ++ naming) (event ++ feed)

pub returns : goal.returns
unfolding entry_text
returns c =
    let e = c.args.entry.now in
    four_added c.text.result c.args.line.now (opening_text c.args.paint e.number e.thread)
    (naming_text c.args.paint c.args.functions.now e)
    (event_text c.args.paint e.sight.layout e.sight.exit e.sight.event) (codes "\n")
    c.show_opening.new.line c.show_naming.new.line c.show_event.new.line c.text.new.self
    c.in_ok-show_opening.ensures c.in_ok-show_naming.ensures c.in_ok-show_event.ensures c.text.ensures
