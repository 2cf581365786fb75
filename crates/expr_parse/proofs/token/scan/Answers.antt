use Rattle.std.proofs.Common.{◌≡◌, ◌+◌, arith, length, ap, sym, ◌∙◌, refl, false, true, map}
use Rattle.expr_parse.specs.Lexemes.{lexeme_of}
use Rattle.std.specs.Prelude.{Some}
use Rattle.num_text.specs.Cells.{is_blank}
use Rattle.expr_parse.specs.Tokens.{tokens_of, tokens_from, front}
use Rattle.expr_parse.proofs.Scanned.{after, after_none, order_further, order_more, scanned, scan_token_at, blank_at, said_more, lexeme_is, behind_more, behind_one}
use Rattle.expr_parse.proofs.token.scan.Goals as goal

pub loop-c-init : goal.loop-c-init
unfolding tokens_of
loop-c-init c = record { tokens = ap (λ ts. after ts (tokens_from 0 0 c.args.text.now)) c.new-out.ensures.items ∙ after_none _; places = omega arith; lexemes = c.new-said.ensures.items ∙ sym (ap (map (lexeme_of c.args.text.now)) c.new-out.ensures.items); behind = refl; order = rw c.new-out.ensures.items (omega arith) }

pub loop-c-preserved : goal.loop-c-preserved
loop-c-preserved c =
    let f : front c.loop-c.rest.now ≡ Some (c.in-Some-front.kind, c.in-Some-front.n) = cc c.in-Some-front.ensures.value in
    let b : is_blank c.in-Some.c ≡ false = sym c.is_blank.ensures ∙ c.if-is_blank.false in
    let step = scan_token_at c.loop-c.rest.now c.in-Some.c c.in-Some.behind.now c.loop-c.place c.in-Some-front.n c.in-Some-front.kind c.in-Some.ensures b f c.in-Some-front.ensures.within.0 c.in-Some-front.ensures.within.1 in
    record {
      tokens = scanned _ _ _ _ (c.loop-c.place + c.in-Some-front.n) _ c.loop-c.rest.now c.split_at.result.1.now c.in_ok-put_token-in-Some-front.ensures.ok (rw (← c.split_at.ensures.back) at step) c.loop-c.invariant.tokens;
      places = omega (arith, c.loop-c.invariant.places, c.split_at.ensures.back_len, c.in-Some-front.ensures.within);
      lexemes = said_more c.args.text.now c.loop-c.out.items c.put_token.new.out.items _ c.loop-c.said.items c.put_lexeme.new.said.items _ c.in_ok-put_token-in-Some-front.ensures.ok c.in_ok-put_lexeme-in-Some-front.ensures.ok c.loop-c.invariant.lexemes (lexeme_is c.args.text.now c.loop-c.rest.now c.split_at.result.0.now c.in-Some-front.kind c.loop-c.place c.in-Some-front.n _ c.lexeme_at.ensures c.split_at.ensures.front c.loop-c.invariant.behind);
      order = order_more c.loop-c.out.items c.put_token.new.out.items c.in-Some-front.kind c.loop-c.place c.in-Some-front.n c.in_ok-put_token-in-Some-front.ensures.ok c.loop-c.invariant.order c.in-Some-front.ensures.within.0;
      behind = behind_more c.args.text.now c.loop-c.rest.now c.split_at.result.1.now c.loop-c.place c.in-Some-front.n c.split_at.ensures.back c.loop-c.invariant.behind;
    }

pub loop-c-preserved-then-is_blank : goal.loop-c-preserved-then-is_blank
loop-c-preserved-then-is_blank c =
    let b : is_blank c.in-Some.c ≡ true = sym c.is_blank.ensures ∙ c.if-is_blank.true in
    let step = blank_at c.loop-c.rest.now c.in-Some.c c.in-Some.behind.now c.loop-c.place c.in-Some.ensures b in
    record {
      tokens = ap (after c.loop-c.out.items) (sym step) ∙ c.loop-c.invariant.tokens;
      places = omega (arith, c.loop-c.invariant.places, ap length c.in-Some.ensures);
      lexemes = c.loop-c.invariant.lexemes;
      order = order_further c.loop-c.out.items c.loop-c.place (c.loop-c.place + 1) c.loop-c.invariant.order (omega arith);
      behind = behind_one c.args.text.now c.loop-c.rest.now c.in-Some.behind.now c.in-Some.c c.loop-c.place c.in-Some.ensures c.loop-c.invariant.behind;
    }
