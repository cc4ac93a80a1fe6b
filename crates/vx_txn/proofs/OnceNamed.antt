-- Names that stand in a directory's blocks once.
use Rattle.std.proofs.Common.{◌≡◌, ℕ, ◌+◌, ◌≤◌, Bool, false, cond, List, [], ◌∷◌, ◌++◌, refl, sym, ◌∙◌, ap, subst, arith, inl, inr, append_assoc, append-nil}
use Rattle.std.specs.List.{count_by, list_any}
use Rattle.std.specs.Str.{bytes_eq}
use Rattle.std.proofs.lemmas.Bool.{both_ways, cases_Bool, or_parts}
use Rattle.std.proofs.lemmas.List.Sums.{sum_by-append, sum_by-cons, sum_by_push}
use Rattle.std.proofs.lemmas.Slice.Eq.{bytes_eq-Decides}
use Rattle.vx_base.specs.Paths.{FileName}
use Rattle.vx_base.specs.declared.inode.DirEntry.{DirEntry}
use Rattle.vx_dir.specs.Directories.{HasDistinctNames, is_named, name_count}
use Rattle.vx_dir.specs.Sizes.{Entries}
use Rattle.vx_model.specs.LaidOut.{entries_of}
use Rattle.vx_model.specs.Layout.{DirectoryBlock}
use Rattle.vx_txn.specs.Loads.{AreOnceNamed, entries_by_block}

abbrev count : FileName → Entries → ℕ
count q es = count_by (is_named q) es

none_named : (name q : FileName) (before : Entries) → name ≡ q → list_any (λ (x : DirEntry). bytes_eq name x.name) before ≡ false → count q before ≡ 0
none_named name q [] same none = refl
none_named name q (x ∷ before) same none =
    let parts = or_parts _ _ none in
    let first = sum_by-cons (λ (e : DirEntry). cond (is_named q e) 1 0) x before in
    let rest = none_named name q before same parts.1 in
    elim (cases_Bool (bytes_eq x.name q)) [
      | inl hit ↦ absurd (both_ways _ parts.0 ((bytes_eq-Decides name x.name).1 (same ∙ sym ((bytes_eq-Decides x.name q).0 hit))))
      | inr miss ↦ let one : count q (x ∷ before) ≡ 0 + count q before = first ∙ ap (λ (t : Bool). cond t 1 0 + count q before) miss in omega arith
    ]

once : (q : FileName) (before es : Entries) → count q before ≤ 1 → AreOnceNamed before es → count q (before ++ es) ≤ 1
once q before [] few is = subst (λ (xs : Entries). count q xs ≤ 1) (sym (append-nil before)) few
once q before (e ∷ es) few is =
    let more = sum_by_push (λ (x : DirEntry). cond (is_named q x) 1 0) before e in
    let next : count q (before ++ e ∷ []) ≤ 1 = elim (cases_Bool (bytes_eq e.name q)) [
      | inl hit ↦
          let none = none_named e.name q before ((bytes_eq-Decides e.name q).0 hit) is.0 in
          let one : count q (before ++ e ∷ []) ≡ 0 + 1 = more ∙ ap (λ (t : Bool). count q before + cond t 1 0) hit ∙ ap (λ (n : ℕ). n + 1) none in
          omega arith
      | inr miss ↦ let same : count q (before ++ e ∷ []) ≡ count q before + 0 = more ∙ ap (λ (t : Bool). count q before + cond t 1 0) miss in omega arith
    ] in
    subst (λ (xs : Entries). count q xs ≤ 1) (append_assoc before (e ∷ []) es) (once q (before ++ e ∷ []) es next is.1)

by_block : (q : FileName) (bs : List DirectoryBlock) → name_count q (entries_by_block bs) ≡ count q (entries_of bs)
by_block q [] = refl
by_block q (d ∷ bs) =
    let first = sum_by-cons (λ (b : Entries). count q b) d.entries (entries_by_block bs) in
    let both = sum_by-append (λ (e : DirEntry). cond (is_named q e) 1 0) d.entries (entries_of bs) in
    let rest = by_block q bs in
    omega arith

pub distinct_by_block : (bs : List DirectoryBlock) → AreOnceNamed [] (entries_of bs) → HasDistinctNames (entries_by_block bs)
distinct_by_block bs is q = let all = once q [] (entries_of bs) (omega arith) is in let same = by_block q bs in omega arith
