use Rattle.pgn_game.proofs.Words.{refl, NotAMove, TagInMovetext, UnexpectedEnd, rules}
use Rattle.pgn_lexer.specs.Tokens as tokens
use Rattle.pgn_game.proofs.putting.TokenToEvent.{entry_means, entry_refuses}
use Rattle.pgn_game.proofs.reader.Reader.accept_entry.Goals as goal

pub returns-in-Asterisk : goal.returns-in-Asterisk
returns-in-Asterisk g c = rw c.in-Asterisk.is (record { is = refl; same = refl })

pub returns-in-Period : goal.returns-in-Period
returns-in-Period g c = search (rules, entry_means)

pub returns-in-Word : goal.returns-in-Word
returns-in-Word g c = search (rules, entry_means)

pub returns-in-CommentOpen : goal.returns-in-CommentOpen
returns-in-CommentOpen g c = search (rules, entry_means)

pub returns-in-CommentClose : goal.returns-in-CommentClose
returns-in-CommentClose g c = search (rules, entry_means)

pub returns-in-Glyph : goal.returns-in-Glyph
returns-in-Glyph g c = search (rules, entry_means)

pub returns-in-LeftParen : goal.returns-in-LeftParen
returns-in-LeftParen g c = rw c.in-LeftParen.is c.open_variation.ensures

pub returns-in-RightParen : goal.returns-in-RightParen
returns-in-RightParen g c = rw c.in-RightParen.is c.close_variation.ensures

pub returns-in-End : goal.returns-in-End
returns-in-End g c = rw c.in-End.is (entry_refuses c.args.self.now tokens.end UnexpectedEnd refl refl (λ w part is. refl) (λ part. refl))

pub returns-in-LeftBracket : goal.returns-in-LeftBracket
returns-in-LeftBracket g c =
    rw c.in-LeftBracket.is (entry_refuses c.args.self.now tokens.left_bracket TagInMovetext refl refl (λ w part is. refl) (λ part. refl))

pub returns-in-RightBracket : goal.returns-in-RightBracket
returns-in-RightBracket g c =
    rw c.in-RightBracket.is (entry_refuses c.args.self.now tokens.right_bracket NotAMove refl refl (λ w part is. refl) (λ part. refl))

pub returns-in-Str : goal.returns-in-Str
returns-in-Str g c = rw c.in-Str.is (entry_refuses c.args.self.now _ NotAMove refl refl (λ w part is. refl) (λ part. refl))
