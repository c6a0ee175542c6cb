use Rattle.pgn_tool.proofs.Words.{arith, ◌≡◌, ℕ, ◌-◌, ◌^◌, ◌<◌, ◌≤◌, false, List, length, Some, String, string_bytes, Global, Appends, Full, profile_of, output, Export, Machine, holds, Carries, common_steps}
use Rattle.pgn_tool.proofs.memory_tests.export_named.Goals as goal

carried : (name : String Global) (m : Machine) (status : ℕ) (text : List ℕ) → Carries (Export false (Some name)) m status → status ≡ 0
    → m.input.holding (string_bytes name) ≡ holds (Some text) → length text ≤ 2 ^ 62 → m.out.failures < 2 ^ 64 - 1
    → Appends m.out.before m.out.after (output (profile_of 64 32 Full) text)
carried name m status text h g held small calm = grind (arith, common_steps)

pub returns : goal.returns
returns g c = λ zero text held small. carried c.args.name _ _ text c.run_task.ensures.carries.runs zero held small c.requires
