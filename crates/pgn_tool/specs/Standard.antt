-- **Definition**: what the standard streams report, over any reader and any writer.
use Rattle.std.specs.Prelude.{ℕ, ◌+◌, Bool, not, nat_le, List, Option, Vec, vec_len, vec_capacity}
use Rattle.std.specs.Global.{Global}
use Rattle.pgn_tool.specs.declared.standard.StandardOrFile.{StandardOrFile}
use Rattle.pgn_tool.specs.declared.standard.StandardOrFile.TheVariants.{Standard, Opened}

-- the bytes that are left: of standard input, or of the file that is read in its place
abbrev pub left_in : {R F : Type 0} → (R → Option (List ℕ)) → (F → Option (List ℕ)) → StandardOrFile R F
    → Option (List ℕ)
left_in standard opened (Standard input) = standard input
left_in standard opened (Opened file) = opened file

-- there is no room for a block of 64 KiB after what the buffer has
abbrev pub lacks_room : Vec ℕ Global → Bool
lacks_room buffer = not (nat_le (vec_len buffer + 65536) (vec_capacity buffer))
