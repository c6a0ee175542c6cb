-- The search in the bytes of a source finds what the whole text shows.
use Rattle.pgn_game.proofs.Words.{ℕ, ◌≡◌, ◌+◌, ◌-◌, ◌^◌, ◌<◌, ◌≤◌, Bool, true, List, ◌++◌, drop, length, Option, None, Some, IfSome, Ok, Consumes, is_some, refl, sym, ap, ◌∙◌, arith, length-append, true≢false, rules}
use Rattle.std.specs.Prelude.{min}
use Rattle.pgn_layout.specs.Device.{Device, IsStill}
use Rattle.pgn_sections.specs.Lines.{next_place}
use Rattle.pgn_sections.specs.Search.{game_begin, place_behind, place_read}
use Rattle.pgn_sections.specs.declared.search.LineReader.{LineReader}
use Rattle.pgn_game.specs.steps.SkippingSteps.{FindsSection, LeavesToSearch, SearchSoFar}

-- the count of games goes on
pub counts_on : (earlier total shown : ℕ) → total ≡ min earlier (2 ^ 64 - 1) → shown ≡ 0
    → min (total + shown) (2 ^ 64 - 1) ≡ min earlier (2 ^ 64 - 1)
counts_on earlier total shown e f = search rules

-- one piece more

module _ (begin fault place : ℕ) (old : LineReader) (piece : List ℕ) (from : begin ≤ place) where
  abbrev Reads : LineReader → Type 0
  Reads new = (is_last : Bool) (s : List ℕ) → place_behind new is_last s ≡ place_behind old is_last (piece ++ s)

  rest_behind : (s rest : List ℕ) (new : LineReader) (left : Option (List ℕ)) → Reads new → Consumes (Some rest) left piece
      → (place - begin) + length rest ≡ length (drop begin s) → place_behind old true rest ≡ next_place s begin fault
      → LeavesToSearch s begin fault (place + length piece) new left
  rest_behind s rest new None reads consumed count finds = absurd consumed
  rest_behind s rest new (Some more) reads consumed count finds =
      record {
        rest = more;
        is = refl;
        count = omega (arith, from, count, ap length consumed, length-append piece more);
        finds = reads true more ∙ ap (λ (t : List ℕ). place_behind old true t) (sym consumed) ∙ finds;
      }

  one_more_piece : (text : Option (List ℕ)) (new : LineReader) (before left : Option (List ℕ)) → Reads new → Consumes before left piece
      → IfSome text (λ s. LeavesToSearch s begin fault place old before)
      → IfSome text (λ s. LeavesToSearch s begin fault (place + length piece) new left)
  one_more_piece text new before left reads consumed so = search (rules, rest_behind)

pub search_goes_on : (text : Option (List ℕ)) (begin fault place : ℕ) (old new : LineReader) (before left : Option (List ℕ))
    (piece : List ℕ) → SearchSoFar text begin fault place old before → Consumes before left piece → place + length piece ≤ 2 ^ 62
    → ((is_last : Bool) (s : List ℕ) → place_behind new is_last s ≡ place_behind old is_last (piece ++ s))
    → place_read new ≤ place_read old + length piece → game_begin new ≡ game_begin old
    → SearchSoFar text begin fault (place + length piece) new left
search_goes_on text begin fault place old new before left piece so consumed within reads read begins =
    record {
      from = (let f = so.from in omega (arith, f));
      within = within;
      read = (let f = so.read in omega (arith, f, read));
      begins = begins ∙ so.begins;
      leaves = one_more_piece begin fault place old piece so.from text new before left reads consumed so.leaves;
    }

-- the place that a piece shows

shown_in : (text : Option (List ℕ)) (begin fault place : ℕ) (search : LineReader) (left : Option (List ℕ)) (found : ℕ)
    → ((is_last : Bool) (s : List ℕ) → place_behind search is_last s ≡ Some found)
    → IfSome text (λ s. LeavesToSearch s begin fault place search left) → IfSome text (λ s. Some found ≡ next_place s begin fault)
shown_in None begin fault place search left found stays so = tt
shown_in (Some s) begin fault place search left found stays so = sym (stays true so.rest) ∙ so.finds

pub search_finds : (text : Option (List ℕ)) (begin fault place : ℕ) (search : LineReader) (left : Option (List ℕ)) (source : Device)
    (found : Option ℕ) → SearchSoFar text begin fault place search left → IsStill source → is_some found ≡ true
    → IfSome found (λ p. (is_last : Bool) (s : List ℕ) → place_behind search is_last s ≡ Some p)
    → IfSome found (λ p. begin < p) → IfSome found (λ p. p ≤ place_read search)
    → FindsSection text begin fault source (Ok found)
search_finds text begin fault place search left source None so still some stays above read = absurd (true≢false (sym some))
search_finds text begin fault place search left source (Some found) so still some stays above read =
    let r = so.read in
    let w = so.within in
    ((above, omega (arith, read, r, w)), still, shown_in text begin fault place search left found stays so.leaves)
