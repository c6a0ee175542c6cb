-- White space that is passed, with numbers and periods in movetext.
use Rattle.pgn_lexer.specs.Tokens.{period}
use Rattle.pgn_lexer.specs.WholeTokens.{none}
use Rattle.pgn_lexer.specs.declared.token.TokenKind.TheVariants as token_kinds
use Rattle.pgn_game.proofs.Words.{Agrees, Bool, Kind, next, Standing, waiting, InMovetext, GameState, Device, Reason, ◌≡◌, ℕ, ◌+◌, ◌*◌, ◌≤◌, List, [], Option, None, Ok, IsTrue, refl, sym, ap, subst, arith, Appends-nil, More, kind_of, TokenKind, Result, Accepted, may_have_movetext, TakesToken, symbol, Passes, is_passed, over_space, over_token, EntersMovetext, Part, IsOpen, PutResult, CostsToFind, going, in_text, text_refusal, with_items, TakesEntry, common_steps, rules}
use Rattle.pgn_game.proofs.putting.ItemToReader.{begun_before, puts_number, to_items}
use Rattle.pgn_game.proofs.stepping.PairsTriedForToken.{adds_none}
use Rattle.pgn_game.proofs.stepping.PutToAnswer.{takes_put}
use Rattle.pgn_game.proofs.ReaderLemmas.{counting_none, enters, entry_in_movetext, number_no_score, number_free, number_leads, number_untried}

-- ---- how far the lexer gets

pub passes_count : {skips : Bool} {old : Standing} {piece : List ℕ} {new : Standing} {n : ℕ} → Passes skips old piece new n → new.count ≡ old.count + n
passes_count none = omega arith
passes_count (over_space l new m passes within is_white scans waits) = let before = passes_count passes in omega (arith, before, scans.count)
passes_count (over_token l new m n t passes within some scans skipped passed) = let before = passes_count passes in omega (arith, before, scans.count)

pub passes_few : {skips : Bool} {old : Standing} {piece : List ℕ} {new : Standing} {n : ℕ} → Passes skips old piece new n → waiting new ≤ 2 * n + waiting old
passes_few h1 = search rules

-- ---- what the reader does with them

-- a kind as the lexer returns it
given_as : (k : Kind) → IsTrue (is_passed k) → (returned : TokenKind) × (kind_of returned ≡ k)
given_as (symbol text) h = (token_kinds.Symbol (record { ref_ptr = (0, 0); now = text }), refl)
given_as period h = (token_kinds.Period, refl)
given_as _ h = absurd (cc)

-- a sink in which nothing is written
abbrev still_at : Option (List ℕ) → ℕ → Device
still_at taken failures = record { before = taken; after = taken; failures = failures; failures_after = failures }

-- in movetext such a token adds nothing
puts_none : (r : GameState) (taken : Option (List ℕ)) (failures : ℕ) → r.stage ≡ InMovetext
    → PutResult r (IsOpen r) (to_items []) r (Ok More) (still_at taken failures)
puts_none r taken failures at =
    puts_number r r (still_at taken failures) (ap may_have_movetext at) (begun_before r (still_at taken failures) at (Appends-nil taken) refl)

passes : (r : GameState) (k : Kind) (taken : Option (List ℕ)) (failures : ℕ) → r.stage ≡ InMovetext
    → ((part : Part) → IsOpen r part → (text_refusal r.profile part k ≡ None) × (in_text part k ≡ going (with_items part [])))
    → ((part : Part) → CostsToFind part k 0) → TakesEntry r k r (Ok More) (still_at taken failures)
passes r k taken failures at says finds = grind (arith, common_steps, takes_put, counting_none, puts_none, adds_none)

entry_passed : (r : GameState) (k : Kind) (taken : Option (List ℕ)) (failures : ℕ) → r.stage ≡ InMovetext → IsTrue (is_passed k)
    → TakesEntry r k r (Ok More) (still_at taken failures)
entry_passed r k taken failures at h1 = grind (arith, common_steps, number_no_score, passes, number_free, number_leads, number_untried)

-- in movetext a token is one of movetext
pub enters_in_movetext : (r : GameState) (k : TokenKind) → r.stage ≡ InMovetext → EntersMovetext r (kind_of k) r
enters_in_movetext r k at = enters r k (ap may_have_movetext at) (λ part agrees. entry_in_movetext r k part at agrees)

takes_in_movetext : (r new : GameState) (k : TokenKind) (answer : Result Accepted Reason) (d : Device) → r.stage ≡ InMovetext
    → TakesEntry r (kind_of k) new answer d → TakesToken r (kind_of k) new answer d
takes_in_movetext r new k answer d at takes = (enters_in_movetext r k at).takes new answer d takes

pub takes_passed : (r : GameState) (k : Kind) (taken : Option (List ℕ)) (failures : ℕ) → r.stage ≡ InMovetext → IsTrue (is_passed k)
    → TakesToken r k r (Ok More) (still_at taken failures)
takes_passed r k taken failures at h =
    let returned = given_as k h in
    subst (λ j. TakesToken r j r (Ok More) (still_at taken failures)) returned.1
    (takes_in_movetext r r returned.0 (Ok More) (still_at taken failures) at
    (subst (λ j. TakesEntry r j r (Ok More) (still_at taken failures)) (sym returned.1) (entry_passed r k taken failures at h)))

-- it leads to a part with the same items
entry_leads : (r : GameState) (k : TokenKind) (part : Part) → r.stage ≡ InMovetext → Agrees r part → next part (kind_of k) ≡ in_text part (kind_of k)
entry_leads r k part at agrees = (entry_in_movetext r k part at agrees).leads

adds_no_items : (part : Part) (k : Kind) → IsTrue (is_passed k) → in_text part k ≡ going (with_items part [])
adds_no_items part k h1 = search (rules, number_leads, number_no_score)

pub passed_leads : (r : GameState) (k : Kind) (part : Part) → r.stage ≡ InMovetext → IsTrue (is_passed k) → Agrees r part
    → next part k ≡ going (with_items part [])
passed_leads r k part at h agrees = search (rules, given_as, entry_leads, adds_no_items)
