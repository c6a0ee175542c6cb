-- What a class says of a byte, and what a test says of its class.
use Rattle.pgn_lexer.proofs.Words.{◌≡◌, ℕ, Bool, true, false, refl, arith, ◌||◌, not, ◌==◌, if◌then◌else◌, eqb-true, StrayByte, ControlByte, Reserved, Class, LineEnd, Space, Percent, SymbolStart, Quote, Dollar, Suffix, OpenBrace, Semicolon, Alone, Refused, CommentClass, is_line_end, is_blank, is_control, starts_symbol, is_suffix, class, comment_class, is_stray, Single, common_steps}

-- from a class to what is said of the byte; the tests are those of `class`, in its order
module _ (sy le bl su pe qu da br se lb rb lp rp pd ast re co : Bool) where
  abbrev Says : Class → Type 0
  Says LineEnd = le ≡ true
  Says Space = (le ≡ false) × (bl ≡ true)
  Says Percent = pe ≡ true
  Says SymbolStart = sy ≡ true
  Says Quote = qu ≡ true
  Says Dollar = da ≡ true
  Says Suffix = su ≡ true
  Says OpenBrace = br ≡ true
  Says Semicolon = se ≡ true
  Says (Alone Single.LeftBracket) = lb ≡ true
  Says (Alone Single.RightBracket) = rb ≡ true
  Says (Alone Single.LeftParen) = lp ≡ true
  Says (Alone Single.RightParen) = rp ≡ true
  Says (Alone Single.Period) = pd ≡ true
  Says (Alone Single.Asterisk) = ast ≡ true
  Says (Refused Reserved) = re ≡ true
  Says (Refused ControlByte) = co ≡ true
  Says (Refused StrayByte) = not (sy || le || bl || su || pe || qu || da || br || se || lb || rb || lp || rp || pd || ast || re || co) ≡ true
  Says (Refused _) = ⊥

  abbrev by_tests : Class
  by_tests =
      if sy then SymbolStart else (if le then LineEnd else (if bl then Space else (if su then Suffix else (if pe then Percent
      else (if qu then Quote else (if da then Dollar else (if br then OpenBrace else (if se then Semicolon
      else (if lb then Alone Single.LeftBracket else (if rb then Alone Single.RightBracket else (if lp then Alone Single.LeftParen
      else (if rp then Alone Single.RightParen else (if pd then Alone Single.Period else (if ast then Alone Single.Asterisk
      else (if re then Refused Reserved else (if co then Refused ControlByte else Refused StrayByte))))))))))))))))

  says_of : Says by_tests
  says_of = grind arith

  stray_of : Says (Refused StrayByte) → by_tests ≡ Refused StrayByte
  stray_of h1 = grind arith

abbrev pub ClassSays : ℕ → Class → Type 0
ClassSays b c =
    Says (starts_symbol b) (is_line_end b) (is_blank b) (is_suffix b) (b == 37) (b == 34) (b == 36) (b == 123)
    (b == 59) (b == 91) (b == 93) (b == 40) (b == 41) (b == 46) (b == 42) ((b == 60) || (b == 62)) (is_control b) c

pub class_says : (b : ℕ) → ClassSays b (class b)
class_says b = says_of _ _ _ _ _ _ _ _ _ _ _ _ _ _ _ _ _

pub stray_class : (b : ℕ) → is_stray b ≡ true → class b ≡ Refused StrayByte
stray_class b e = stray_of _ _ _ _ _ _ _ _ _ _ _ _ _ _ _ _ _ e

-- a property of a byte that each of these bytes has
of_line_end : (P : ℕ → Type 0) (b : ℕ) → is_line_end b ≡ true → P 10 → P 13 → P b
of_line_end P b e ten thirteen = grind arith

module _ (b : ℕ) where
  pub line_end_class : is_line_end b ≡ true → class b ≡ LineEnd
  line_end_class e = of_line_end (λ b. class b ≡ LineEnd) b e refl refl

  pub blank_class : is_blank b ≡ true → (class b ≡ Space) × (is_line_end b ≡ false)
  blank_class e = grind (arith, common_steps)

  pub line_end_comment : is_line_end b ≡ true → comment_class b ≡ CommentClass.LineEnd
  line_end_comment e = grind arith

  pub suffix_class : is_suffix b ≡ true → class b ≡ Suffix
  suffix_class e = grind (arith, eqb-true)

  pub reserved_class : ((b == 60) || (b == 62)) ≡ true → class b ≡ Refused Reserved
  reserved_class e = grind (arith, eqb-true)

  pub control_class : is_control b ≡ true → class b ≡ Refused ControlByte
  control_class e = grind (arith, common_steps)

  pub control_comment : is_control b ≡ true → comment_class b ≡ CommentClass.Control
  control_comment e = grind (arith, common_steps)
