-- What holds of each entry of each block.
use Rattle.std.proofs.Common.{◌≡◌, ℕ, ◌<◌, true, false, nat_lt, List, [], ◌∷◌, ◌++◌, length, get_or, set, take, drop, suc, inl, inr, arith}
use Rattle.std.specs.List.{All, fold, flat_map}
use Rattle.std.proofs.lemmas.Bool.{cases_lt}
use Rattle.std.proofs.lemmas.Bool.Decides.{nat_tests}
use Rattle.std.proofs.lemmas.List.Elements.{All-nil, All-cons, All-set, All-push, All-append, All-head, All-tail, All-take, All-drop}
use Rattle.vx_base.specs.Paths.{FileName}
use Rattle.vx_base.specs.declared.inode.DirEntry.{DirEntry}
use Rattle.vx_dir.specs.Sizes.{Entries, entry_size}
use Rattle.vx_dir.specs.Directories.{blocks_with, last_place, put_last, place_of, without_entry}

module _ (P : DirEntry → Type 0) where
  abbrev pub InAll : Entries → Type 0
  InAll b = All P b

  abbrev pub Each : List Entries → Type 0
  Each blocks = All InAll blocks

  pub each_with : (blocks : List Entries) (i : ℕ) (e : DirEntry) → P e → Each blocks → Each (blocks_with blocks i e)
  each_with blocks i e here all = elim (cases_lt i (length blocks)) [
    | inl lt ↦
        let t : nat_lt i (length blocks) ≡ true = grind (arith, nat_tests) in
        rw t (All-set InAll blocks i (get_or blocks i [] ++ e ∷ []) (All-push P (get_or blocks i []) e (all i [] lt) here) all)
    | inr le ↦
        let t : nat_lt i (length blocks) ≡ false = grind (arith, nat_tests) in
        rw t (All-push InAll blocks (e ∷ []) all (All-cons P e [] here (All-nil P)))
  ]

  pub each_without : (name : FileName) (blocks : List Entries) (i : ℕ) → i < length blocks → Each blocks → Each (set blocks i (without_entry name (get_or blocks i [])))
  each_without name blocks i lt all =
      let b : Entries = get_or blocks i [] in
      All-set InAll blocks i (without_entry name b)
      (All-append P (take (place_of name b) b) (drop (suc (place_of name b)) b) (All-take P (place_of name b) b (all i [] lt)) (All-drop P (suc (place_of name b)) b (all i [] lt))) all

  pub each_packed : (room : ℕ) (es : Entries) (blocks : List Entries) → All P es → Each blocks → Each (fold (put_last room) blocks es)
  each_packed room [] blocks here all = all
  each_packed room (e ∷ es) blocks here all =
      each_packed room es (put_last room blocks e) (All-tail P e es here) (each_with blocks (last_place room (entry_size e) blocks) e (All-head P e es here) all)

  pub each_flat : (blocks : List Entries) → Each blocks → All P (flat_map (λ (b : Entries). b) blocks)
  each_flat [] all = All-nil P
  each_flat (b ∷ bs) all = All-append P b (flat_map (λ (x : Entries). x) bs) (All-head InAll b bs all) (each_flat bs (All-tail InAll b bs all))
