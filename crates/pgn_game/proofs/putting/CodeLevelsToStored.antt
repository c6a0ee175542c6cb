-- The levels as they are kept and as contracts see them: kept with the main line first, seen with
-- the nearest first.
use Rattle.pgn_game.proofs.Words.{◌≡◌, ℕ, ◌+◌, ◌-◌, ◌<◌, ◌≤◌, List, [], ◌∷◌, ◌++◌, length, length-map, map, refl, sym, ap, ◌∙◌, arith, length-append, get_or, set, take, refill, take-append_seam, Option, None, Some, IsSomeAnd, Parts, get_or-append_seam, set-append_seam, common_steps, StoredLevel, StoredLevels, inside, code_levels, nearest_first, places_of, level_at, level_of, FitsLevelStore, ClosesLevel, rules}
use Rattle.pgn_game.proofs.pairs.StoredPlaces.{written}
use Rattle.pgn_game.specs.declared.levels.Level.{Level as CodeLevel}

-- one more is the nearest
inside-snoc : (ls : List StoredLevel) (xs : List (Option CodeLevel)) (l : CodeLevel)
    → inside ls (xs ++ Some l ∷ []) ≡ level_of l ∷ inside ls xs
inside-snoc ls [] l = refl
inside-snoc ls (Some x ∷ xs) l = inside-snoc (level_of x ∷ ls) xs l
inside-snoc ls (None ∷ xs) l = inside-snoc ls xs l

inside-places : (ls : List CodeLevel) → inside [] (places_of ls) ≡ map level_of ls
inside-places [] = refl
inside-places (l ∷ around) = search (rules, inside-snoc, (inside-places around))

-- what is seen of these levels
pub seen : (current : CodeLevel) (around : List CodeLevel)
    → code_levels (places_of (current ∷ around)) ≡ record { current = level_of current; around = map level_of around }
seen current around = ap nearest_first (inside-places (current ∷ around))

-- how many there are
pub length-places : (ls : List CodeLevel) → length (places_of ls) ≡ length ls
length-places [] = refl
length-places (l ∷ around) = omega (arith, length-append (places_of around) (Some l ∷ []), length-places around)

-- Places that fit, and the levels that are seen of them.
module _ {most : ℕ} {places : List (Option CodeLevel)} (fits : FitsLevelStore most places) where
  abbrev front : List (Option CodeLevel)
  front = places_of fits.around

  last : length places - 1 ≡ length front
  last = omega (arith, ap (length {A = Option CodeLevel}) fits.there, length-append front (Some fits.current ∷ []))

  -- the last place is of the current level
  last_at : (d : Option CodeLevel) → get_or places (length places - 1) d ≡ Some fits.current
  last_at d = grind (arith, common_steps, last, get_or-append_seam)

  -- without the last place, and with one more
  pub popped : (rest : List (Option CodeLevel)) → rest ≡ take (length places - 1) places → rest ≡ front
  popped rest is = search (rules, last, take-append_seam)

  pub pushed : (more : List (Option CodeLevel)) (l : CodeLevel) → more ≡ places ++ Some l ∷ [] → more ≡ places_of (l ∷ fits.current ∷ fits.around)
  pushed more l is = is ∙ ap (λ (ps : List (Option CodeLevel)). ps ++ Some l ∷ []) fits.there

  module _ {ls : StoredLevels} (is : code_levels places ≡ ls) where
    pub held : ls ≡ record { current = level_of fits.current; around = map level_of fits.around }
    held = sym is ∙ ap code_levels fits.there ∙ seen fits.current fits.around

    pub depth-held : length ls.around + 1 ≡ length places
    depth-held = grind (arith, common_steps, held, length-map, length-places)

    pub current_at : (l : CodeLevel) (d : Option CodeLevel) → get_or places (length places - 1) d ≡ Some l → level_of l ≡ ls.current
    current_at l d at = grind (arith, common_steps, last_at, held)

    -- another current level is written in its place
    pub plays : (l : CodeLevel) → code_levels (refill (length places) places (set places (length places - 1) (Some l)))
        ≡ record { current = level_of l; around = ls.around }
    plays l = grind (arith, common_steps, code_levels, written, set, last, set-append_seam, seen, level_of, held)

    -- one more has the current one around it
    pub opened : (more : List (Option CodeLevel)) (l : CodeLevel) → more ≡ places ++ Some l ∷ []
        → code_levels more ≡ record { current = level_of l; around = ls.current ∷ ls.around }
    opened more l pushes =
        ap code_levels (pushed more l pushes) ∙ seen l (fits.current ∷ fits.around)
        ∙ sym (ap (λ (ls : StoredLevels). record { current = level_of l; around = ls.current ∷ ls.around }) held)

pub fits_front : (most : ℕ) (front : List (Option CodeLevel)) (around : List CodeLevel) → front ≡ places_of around
    → 0 < length around → length front ≤ most → FitsLevelStore most front
fits_front most front [] is some room = absurd (omega arith)
fits_front most front (l ∷ around) is some room = record { current = l; around = around; there = is; room = room }

-- The nearest one is current again.
pub closes : (front : List (Option CodeLevel)) (around : List CodeLevel) (ls : List StoredLevel) → front ≡ places_of around
    → ls ≡ map level_of around → ClosesLevel ls (code_levels front)
closes front [] ls is e = rw e tt
closes front (l ∷ around) ls is e = rw e (ap code_levels is ∙ seen l around)

-- what a variation begins at: it is there, for the current level has a move
pub opens : (o : Option Parts) (start : Parts) (ls new : StoredLevels) → o ≡ Some start
    → new ≡ record { current = level_at start; around = ls.current ∷ ls.around }
    → IsSomeAnd o (λ p. new ≡ record { current = level_at p; around = ls.current ∷ ls.around })
opens o start ls new e is = rw e is
