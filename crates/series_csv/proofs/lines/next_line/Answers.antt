use Rattle.std.proofs.Common.{◌≡◌, ◌+◌, List, ℕ, ◌∷◌, take, drop, sym, ap, ap₂, ◌∙◌}
use Rattle.std.specs.List.{after_first, before_first, prefix_len}
use Rattle.csv.specs.Reading.{default_config, records}
use Rattle.series_csv.specs.Lines.{fields_in, is_line_feed, is_plain_text}
use Rattle.series_csv.proofs.LineLaws.{lines-none, lines-some, none-left, plain-drop, some-left}
use Rattle.series_csv.proofs.lines.next_line.Goals as goal

pub returns-then-is_empty-clause-none : goal.returns-then-is_empty-clause-none
returns-then-is_empty-clause-none c = λ _.
    let text = c.args.text.now in
    let at : c.behind-text.result.now ≡ drop (prefix_len is_line_feed text) text = c.behind-text.ensures ∙ ap (λ n. drop n text) c.feeds_before.ensures.value in
    lines-none text c.requires (sym at ∙ none-left c.behind-text.result.now (sym c.is_empty.ensures ∙ c.if-is_empty.true))

pub returns-clause-some : goal.returns-clause-some
returns-clause-some c =
    let text = c.args.text.now in
    let ys = c.behind-text.result.now in
    let at : ys ≡ drop (prefix_len is_line_feed text) text = c.behind-text.ensures ∙ ap (λ n. drop n text) c.feeds_before.ensures.value in
    let line : c.before-2.result.now ≡ before_first is_line_feed ys = c.before-2.ensures ∙ ap (λ n. take n ys) c.line_len-len.ensures.value in
    let rest : c.past.result.now ≡ after_first is_line_feed ys = c.past.ensures ∙ ap (λ n. drop (n + 1) ys) c.line_len-len.ensures.value in
    lines-some text ys c.requires at (some-left ys (sym c.is_empty.ensures ∙ c.if-is_empty.false))
    ∙ ap₂ (λ (l r : List ℕ). fields_in l ∷ records default_config r) (sym line) (sym rest)

pub returns-clause-plain : goal.returns-clause-plain
returns-clause-plain c =
    ap is_plain_text (c.past.ensures ∙ ap (λ (xs : List ℕ). drop (c.line_len-len.result + 1) xs) c.behind-text.ensures)
    ∙ plain-drop (c.line_len-len.result + 1) (drop c.feeds_before.result c.args.text.now) (plain-drop c.feeds_before.result c.args.text.now c.requires)
