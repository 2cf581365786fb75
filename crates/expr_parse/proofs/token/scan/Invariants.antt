use Rattle.std.proofs.Common.{◌≡◌, ◌+◌, length, map, drop}
use Rattle.expr_parse.specs.Lexemes.{lexeme_of}
use Rattle.expr_parse.specs.Tokens.{tokens_from, tokens_of, AreInOrder}
use Rattle.expr_parse.proofs.Scanned.{after}
use Rattle.expr_parse.proofs.token.scan.Given as goal

-- the tokens so far with what they say, and those of the rest
abbrev pub invariant-loop-c : goal.invariant-loop-c
invariant-loop-c l = record {
  tokens : after l.out.items (tokens_from 0 l.place l.rest) ≡ tokens_of l.fn.text;
  places : l.place + length l.rest ≡ length l.fn.text;
  lexemes : l.said.items ≡ map (lexeme_of l.fn.text) l.out.items;
  order : AreInOrder 0 l.out.items l.place;
  behind : l.rest ≡ drop l.place l.fn.text;
}

abbrev pub decreases-loop-c : goal.decreases-loop-c
decreases-loop-c l = length l.rest
