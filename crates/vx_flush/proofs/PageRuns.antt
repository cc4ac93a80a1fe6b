-- The second half of a page fails.
use Rattle.std.proofs.Common.{◌≡◌, ◌+◌, ◌*◌, ℕ, List, [], take, refl, subst, arith}
use Rattle.vx_dev.specs.declared.device.Operation.TheVariants.{Put}
use Rattle.vx_dev.specs.Tape.{State, Did, Failed}
use Rattle.vx_dev.specs.Runs.{Ran, BrokeOff, puts}
use Rattle.vx_dev.specs.RunLaws.{RunLaws}
use Rattle.vx_layout.specs.Places.{sector_part}
use Rattle.vx_flush.specs.Marks.{page_writes}

pub second_failed : (runs : RunLaws) (b : ℕ) (page : List ℕ) (old mid new : State) (s t : ℕ) (x y : List ℕ) → s ≡ 2 * b → t ≡ 2 * b + 1 → x ≡ sector_part 0 page → y ≡ sector_part 1 page
    → Did (Put s x) old mid → mid.size ≡ old.size → mid.doubt ≡ old.doubt → Failed t y mid new → new.size ≡ mid.size → BrokeOff (page_writes b page) old new
second_failed runs b page old mid new s t x y s_is t_is x_is y_is did size certain failed still =
    let first : Did (Put (2 * b) (sector_part 0 page)) old mid = subst (λ (z : List ℕ). Did (Put (2 * b) z) old mid) x_is (subst (λ (u : ℕ). Did (Put u x) old mid) s_is did) in
    let second : Failed (2 * b + 1) (sector_part 1 page) mid new = subst (λ (z : List ℕ). Failed (2 * b + 1) z mid new) y_is (subst (λ (u : ℕ). Failed u y mid new) t_is failed) in
    let ran : Ran (puts (take 1 (page_writes b page))) old mid = runs.more [] (Put (2 * b) (sector_part 0 page)) old old mid (runs.none old) first size in
    runs.broke (page_writes b page) 1 (2 * b + 1, sector_part 1 page) old mid new (omega arith) refl ran certain second still
