-- The tag section of the next game, and what a buffer has of it.
use Rattle.pgn_c.proofs.Words.{◌≡◌, ◌≢◌, ℕ, ◌<◌, ◌≤◌, ◌⊎◌, ◌^◌, List, length, take, drop, None, Some, arith, length-take-le, take_all, Profile, PgnGame, IsFilled, NextOf, Holds, ReadsTo, text_from, rules, common_steps, Game, Converter, finished_game_of, finished_game_section, ReadsTags, WritesSection, WritesTags, section_of, section_full}
use Rattle.pgn_c.proofs.MarkerTaken.{is_fault}

-- the section that the converter has is that of the game
section_is : (p : Profile) (c : Converter) (game : Game) → c.reading.profile ≡ p → c.just_finished ≡ Some (finished_game_of game)
    → finished_game_section c ≡ section_of p game
section_is p c game profile finished = grind (arith, common_steps)

-- what was found, and what the call writes of it
module _ (p : Profile) (s piece : List ℕ) (found : PgnGame) (c : Converter) (before after : List ℕ) (result : PgnGame)
    (of_game : found.status ≡ 0 → WritesSection (finished_game_section c) found before after result)
    (nothing : found.status ≢ 0 → after ≡ before) (same : found.status ≢ 0 → result ≡ found) where
  both : found.status ≢ 0 → (after ≡ before) × (result ≡ found)
  both other = (nothing other, same other)

  pub tags_of : (next : NextOf p s piece found None None) → Holds next c → WritesTags next before after result
  tags_of next held = search (rules, section_is, both, is_fault)

-- all of the section was written
pub all_written : (section : List ℕ) (found : PgnGame) (before after written : List ℕ) (result : PgnGame) → written ≡ section
    → IsFilled before after written → result ≡ record found { written = length written }
    → WritesSection section found before after result
all_written section found before after written result wrote filled is = grind (arith, common_steps, length, take_all)

-- the buffer was full before that
pub some_written : (section : List ℕ) (found : PgnGame) (before after written : List ℕ) (n : ℕ) (result : PgnGame)
    → n < length section → written ≡ take n section → length written ≡ length before
    → IsFilled before after written → result ≡ section_full found (length written)
    → WritesSection section found before after result
some_written section found before after written n result less wrote full filled is = grind (arith, common_steps, length, length-take-le, take)

-- what a call writes that read the game before
pub reads_tags : (p : Profile) (text : List ℕ) (from : ℕ) (found : PgnGame) (c : Converter) (before after : List ℕ) (result : PgnGame)
    → ReadsTo p text from found c → found.status ≢ 2
    → (found.status ≡ 0 → WritesSection (finished_game_section c) found before after result)
    → (found.status ≢ 0 → after ≡ before) → (found.status ≢ 0 → result ≡ found)
    → ReadsTags p text from before after result
reads_tags p text from found c before after result reads not_full of_game nothing same =
    record {
      found = found;
      reads = reads.0;
      not_full = not_full;
      writes = tags_of p (text_from text from) (drop from text) found c before after result of_game nothing same reads.0 reads.1;
    }

-- the place is in the text, and not above 2^62
pub in_place : (size from : ℕ) → from ≤ size → from ≤ 2 ^ 62 → (size < from) ⊎ (2 ^ 62 < from) → ⊥
in_place size from within limit h = grind (arith, common_steps)
