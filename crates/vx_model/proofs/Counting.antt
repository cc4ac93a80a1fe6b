-- How many names each inode has, before an edit of the nodes and after it.
use Rattle.std.proofs.Common.{◌≡◌, ◌≢◌, ℕ, zero, suc, ◌+◌, ◌<◌, ◌≤◌, cond, List, [], ◌∷◌, map, length, Some, None, refl, sym, ap, subst, ◌∙◌, arith, inl, inr}
use Rattle.std.specs.Prelude.{◌==◌}
use Rattle.std.specs.List.{count_by}
use Rattle.std.specs.declared.cmp.Ordering.{Ordering}
use Rattle.std.specs.declared.cmp.Ordering.TheVariants.{Less, Equal, Greater}
use Rattle.std.specs.Ordering.{nat_cmp, is_eq}
use Rattle.std.specs.Cmp.Lexicographic.{slice_cmp, nat_list_cmp_total}
use Rattle.std.specs.FinMap as map
use Rattle.std.specs.FinMap.Entries.{by_order, find, put}
use Rattle.std.proofs.lemmas.Bool.{cases_eq, eq-eqb, false_from_ne_true, eqb-true}
use Rattle.std.proofs.lemmas.List.Sums.{sum_by-cons}
use Rattle.vx_base.proofs.Maps.{get_same, get_other, at_key, at_other}
use Rattle.vx_base.specs.Paths.{FileName}
use Rattle.vx_model.specs.Tree.{Nodes, Node, Directory, Entries, IsDirectory}
use Rattle.vx_model.specs.Edits.{with_name, without_name}
use Rattle.vx_model.specs.NameLaws.{names_in, name_count, link_number}
use Rattle.vx_model.proofs.Lookups.{names_same, cases_name, gone_same, gone_other}

-- ---- the entries of one directory

-- one name, if it means the inode
abbrev pub one : ℕ → ℕ → ℕ
one ino i = cond (ino == i) 1 0

pub one_same : (ino : ℕ) → one ino ino ≡ 1
one_same ino = ap (λ t. cond t 1 0) (eq-eqb ino ino refl)

pub one_other : (ino i : ℕ) → i ≢ ino → one ino i ≡ 0
one_other ino i ne = ap (λ t. cond t 1 0) (false_from_ne_true (ino == i) (λ e. ne (sym (eqb-true ino i e))))

abbrev meaning : ℕ → List (FileName × ℕ) → ℕ
meaning i es = count_by (λ v. v == i) (map (λ e. e.1) es)

abbrev names_cmp : FileName → FileName → Ordering
names_cmp = slice_cmp nat_cmp

meaning_first : (i : ℕ) (e : FileName × ℕ) (es : List (FileName × ℕ)) → meaning i (e ∷ es) ≡ one e.1 i + meaning i es
meaning_first i e es = sum_by-cons (λ v. cond (v == i) 1 0) e.1 (map (λ x. x.1) es)

swapped : (all a b c d more : ℕ) → a ≡ b + c → all ≡ d + a → more ≡ d + c → all ≡ b + more
swapped all a b c d more e f g = omega arith

put_by : (i : ℕ) (k : FileName) (v : ℕ) (e : FileName × ℕ) (es : List (FileName × ℕ)) (r : Ordering) → cond (is_eq r) (Some e.1) (find names_cmp k es) ≡ None
    → (find names_cmp k es ≡ None → meaning i (put names_cmp k v es) ≡ one v i + meaning i es)
    → meaning i (by_order r ((k, v) ∷ e ∷ es) ((e.0, v) ∷ es) (e ∷ put names_cmp k v es)) ≡ one v i + meaning i (e ∷ es)
put_by i k v e es Less none rest = meaning_first i (k, v) (e ∷ es)
put_by i k v e es Equal none rest = absurd cc
put_by i k v e es Greater none rest =
    swapped (meaning i (e ∷ put names_cmp k v es)) (meaning i (put names_cmp k v es)) (one v i) (meaning i es) (one e.1 i) (meaning i (e ∷ es))
    (rest none) (meaning_first i e (put names_cmp k v es)) (meaning_first i e es)

put_counts : (i : ℕ) (k : FileName) (v : ℕ) (es : List (FileName × ℕ)) → find names_cmp k es ≡ None → meaning i (put names_cmp k v es) ≡ one v i + meaning i es
put_counts i k v [] none = meaning_first i (k, v) []
put_counts i k v (e ∷ es) none = put_by i k v e es (names_cmp k e.0) none (put_counts i k v es)

insert_counts : (i : ℕ) (m : Entries) (k : FileName) (v : ℕ) → map.get m k ≡ None → meaning i (map.entries (map.insert m k v)) ≡ one v i + meaning i (map.entries m)
insert_counts i m k v none = ap (meaning i) (map.entries-insert nat_list_cmp_total m k v) ∙ put_counts i k v (map.entries m) (sym (map.get-entries m k) ∙ none)

-- a name that is taken and put again
put_back : (m : Entries) (k : FileName) (v : ℕ) → map.get m k ≡ Some v → map.insert (map.remove m k) k v ≡ m
put_back m k v is =
    map.same_map nat_list_cmp_total names_same (map.insert (map.remove m k) k v) m (λ q.
    elim (cases_name q k) [
      | inl e ↦ ap (map.get (map.insert (map.remove m k) k v)) e ∙ get_same nat_list_cmp_total names_same (map.remove m k) k v ∙ sym is ∙ sym (ap (map.get m) e)
      | inr ne ↦ get_other nat_list_cmp_total names_same (map.remove m k) k v q ne ∙ gone_other nat_list_cmp_total names_same m k q ne
    ])

remove_counts : (i : ℕ) (m : Entries) (k : FileName) (v : ℕ) → map.get m k ≡ Some v → meaning i (map.entries m) ≡ one v i + meaning i (map.entries (map.remove m k))
remove_counts i m k v is =
    ap (λ (es : Entries). meaning i (map.entries es)) (sym (put_back m k v is)) ∙ insert_counts i (map.remove m k) k v (gone_same nat_list_cmp_total names_same m k)

none_mean : (i : ℕ) (es : List (FileName × ℕ)) → length es ≡ 0 → meaning i es ≡ 0
none_mean i [] h = refl
none_mean i (e ∷ es) h = absurd (omega arith)

pub empty_counts : (i : ℕ) (d : Directory) → map.len d.entries ≡ 0 → names_in i (Some (IsDirectory d)) ≡ 0
empty_counts i d empty = none_mean i (map.entries d.entries) (sym (map.len-entries d.entries) ∙ empty)

-- ---- all directories

abbrev Others : Nodes → Nodes → ℕ → ℕ → Type 0
Others old new at i = (k : ℕ) → k ≢ at → names_in i (map.get new k) ≡ names_in i (map.get old k)

pub count_same : (old new : Nodes) (i : ℕ) → ((k : ℕ) → names_in i (map.get new k) ≡ names_in i (map.get old k)) → (n : ℕ) → name_count new n i ≡ name_count old n i
unfolding name_count
count_same old new i same zero = refl
count_same old new i same (suc n) =
    let rest = count_same old new i same n in
    ap (λ a. a + name_count new n i) (same n) ∙ ap (λ b. names_in i (map.get old n) + b) rest

-- where no directory has a name of the inode
pub no_names : (nodes : Nodes) (i : ℕ) → ((k : ℕ) → names_in i (map.get nodes k) ≡ 0) → (n : ℕ) → name_count nodes n i ≡ 0
unfolding name_count
no_names nodes i none zero = refl
no_names nodes i none (suc n) =
    let rest = no_names nodes i none n in
    ap (λ a. a + name_count nodes n i) (none n) ∙ ap (λ b. 0 + b) rest

count_below : (old new : Nodes) (at i : ℕ) → Others old new at i → (n : ℕ) → n ≤ at → name_count new n i ≡ name_count old n i
unfolding name_count
count_below old new at i others zero le = refl
count_below old new at i others (suc n) le =
    let rest = count_below old new at i others n (omega arith) in
    ap (λ a. a + name_count new n i) (others n (λ e. absurd (omega arith))) ∙ ap (λ b. names_in i (map.get old n) + b) rest

added : (x a b rest rest_old : ℕ) → a ≡ x + b → rest ≡ rest_old → a + rest ≡ x + (b + rest_old)
added x a b rest rest_old here same = omega arith

kept : (x a b rest rest_old : ℕ) → a ≡ b → rest ≡ x + rest_old → a + rest ≡ x + (b + rest_old)
kept x a b rest rest_old here more = omega arith

-- one directory has so many more names of the inode
pub count_more : (old new : Nodes) (at i x : ℕ) → Others old new at i → names_in i (map.get new at) ≡ x + names_in i (map.get old at) → (n : ℕ) → at < n → name_count new n i ≡ x + name_count old n i
unfolding name_count
count_more old new at i x others here zero lt = absurd (omega arith)
count_more old new at i x others here (suc n) lt =
    elim (cases_eq n at) [
      | inl e ↦ added x (names_in i (map.get new n)) (names_in i (map.get old n)) (name_count new n i) (name_count old n i)
          (subst (λ (k : ℕ). names_in i (map.get new k) ≡ x + names_in i (map.get old k)) (sym e) here) (count_below old new at i others n (omega arith))
      | inr ne ↦ kept x (names_in i (map.get new n)) (names_in i (map.get old n)) (name_count new n i) (name_count old n i)
          (others n ne) (count_more old new at i x others here n (omega arith))
    ]

-- ---- names that are owed

-- each inode lacks so many names; and nodes stand below n
pub record Owes (nodes : Nodes) (n : ℕ) (extra : ℕ → ℕ) : Type 0 where
  pub low : (k : ℕ) (node : Node) → map.get nodes k ≡ Some node → k < n
  pub links : (i : ℕ) → name_count nodes n i + extra i ≡ link_number i (map.get nodes i)

taken_sum : (a b x extra l l2 : ℕ) → a ≡ x + b → l2 ≡ l → a + extra ≡ l → b + (x + extra) ≡ l2
taken_sum a b x extra l l2 more same h = omega arith

put_sum : (a b x extra l l2 : ℕ) → b ≡ x + a → l2 ≡ l → a + (x + extra) ≡ l → b + extra ≡ l2
put_sum a b x extra l l2 more same h = omega arith

module _ (nodes : Nodes) (n : ℕ) (at : ℕ) (d : Directory) (there : map.get nodes at ≡ Some (IsDirectory d)) where
  module _ (entries : Entries) where
    abbrev edited : Nodes
    edited = map.insert nodes at (IsDirectory (record d { entries = entries }))

    edited_low : ((k : ℕ) (node : Node) → map.get nodes k ≡ Some node → k < n) → (k : ℕ) (node : Node) → map.get edited k ≡ Some node → k < n
    edited_low low k node is =
        elim (cases_eq k at) [
          | inl e ↦ subst (λ (x : ℕ). x < n) (sym e) (low at (IsDirectory d) there)
          | inr ne ↦ low k node (sym (at_other nodes at (IsDirectory (record d { entries = entries })) k ne) ∙ is)
        ]

    edited_others : (i : ℕ) → Others nodes edited at i
    edited_others i k ne = ap (names_in i) (at_other nodes at (IsDirectory (record d { entries = entries })) k ne)

    edited_here : (i : ℕ) → names_in i (map.get edited at) ≡ meaning i (map.entries entries)
    edited_here i = ap (names_in i) (at_key nodes at (IsDirectory (record d { entries = entries })))

    pub edited_link : (i : ℕ) → link_number i (map.get edited i) ≡ link_number i (map.get nodes i)
    edited_link i =
        elim (cases_eq i at) [
          | inl e ↦ ap (λ (k : ℕ). link_number i (map.get edited k)) e ∙ ap (link_number i) (at_key nodes at (IsDirectory (record d { entries = entries }))) ∙ sym (ap (link_number i) there)
              ∙ sym (ap (λ (k : ℕ). link_number i (map.get nodes k)) e)
          | inr ne ↦ ap (link_number i) (at_other nodes at (IsDirectory (record d { entries = entries })) i ne)
        ]

  old_here : (i : ℕ) → names_in i (map.get nodes at) ≡ meaning i (map.entries d.entries)
  old_here i = ap (names_in i) there

  -- a name is taken away
  pub takes : (name : FileName) (ino : ℕ) (extra : ℕ → ℕ) → map.get d.entries name ≡ Some ino → Owes nodes n extra → Owes (map.insert nodes at (without_name d name)) n (λ i. one ino i + extra i)
  takes name ino extra is o =
      let less : Entries = map.remove d.entries name in
      record {
        low = edited_low less o.low;
        links = λ i. taken_sum (name_count nodes n i) (name_count (edited less) n i) (one ino i) (extra i) (link_number i (map.get nodes i)) (link_number i (map.get (edited less) i))
            (count_more (edited less) nodes at i (one ino i) (λ k ne. sym (edited_others less i k ne))
            (old_here i ∙ remove_counts i d.entries name ino is ∙ ap (λ c. one ino i + c) (sym (edited_here less i))) n (o.low at (IsDirectory d) there))
            (edited_link less i) (o.links i);
      }

  -- a name is put
  pub puts : (name : FileName) (ino : ℕ) (extra : ℕ → ℕ) → map.get d.entries name ≡ None → Owes nodes n (λ i. one ino i + extra i) → Owes (map.insert nodes at (with_name d name ino)) n extra
  puts name ino extra none o =
      let more : Entries = map.insert d.entries name ino in
      record {
        low = edited_low more o.low;
        links = λ i. put_sum (name_count nodes n i) (name_count (edited more) n i) (one ino i) (extra i) (link_number i (map.get nodes i)) (link_number i (map.get (edited more) i))
            (count_more nodes (edited more) at i (one ino i) (edited_others more i)
            (edited_here more i ∙ insert_counts i d.entries name ino none ∙ ap (λ c. one ino i + c) (sym (old_here i))) n (o.low at (IsDirectory d) there))
            (edited_link more i) (o.links i);
      }

-- ---- an inode with one name less or more to it

-- only this inode's node has changed, and no names with it
pub record Relinked (old new : Nodes) (n ino : ℕ) : Type 0 where
  pub low : (node : Node) → map.get new ino ≡ Some node → ino < n
  pub names : (i : ℕ) → names_in i (map.get new ino) ≡ names_in i (map.get old ino)
  pub others : (k : ℕ) → k ≢ ino → map.get new k ≡ map.get old k

relinked_low : (old new : Nodes) (n ino : ℕ) → Relinked old new n ino → ((k : ℕ) (node : Node) → map.get old k ≡ Some node → k < n) → (k : ℕ) (node : Node) → map.get new k ≡ Some node → k < n
relinked_low old new n ino r low k node is =
    elim (cases_eq k ino) [
      | inl e ↦ subst (λ (x : ℕ). x < n) (sym e) (r.low node (sym (ap (map.get new) e) ∙ is))
      | inr ne ↦ low k node (sym (r.others k ne) ∙ is)
    ]

relinked_counts : (old new : Nodes) (n ino i : ℕ) → Relinked old new n ino → name_count new n i ≡ name_count old n i
relinked_counts old new n ino i r =
    count_same old new i (λ k. elim (cases_eq k ino) [
      | inl e ↦ ap (λ (x : ℕ). names_in i (map.get new x)) e ∙ r.names i ∙ sym (ap (λ (x : ℕ). names_in i (map.get old x)) e)
      | inr ne ↦ ap (names_in i) (r.others k ne)
    ]) n

lost_here : (a b x extra l l2 : ℕ) → b ≡ a → x ≡ 1 → l2 + 1 ≡ l → a + (x + extra) ≡ l → b + extra ≡ l2
lost_here a b x extra l l2 same is less h = omega arith

lost_other : (a b x extra l l2 : ℕ) → b ≡ a → x ≡ 0 → l2 ≡ l → a + (x + extra) ≡ l → b + extra ≡ l2
lost_other a b x extra l l2 same is less h = omega arith

pub loses : (old new : Nodes) (n ino : ℕ) (extra : ℕ → ℕ) → Relinked old new n ino → link_number ino (map.get new ino) + 1 ≡ link_number ino (map.get old ino) → Owes old n (λ i. one ino i + extra i) → Owes new n extra
loses old new n ino extra r less o =
    let Q : ℕ → Type 0 = λ i. name_count new n i + extra i ≡ link_number i (map.get new i) in
    record {
      low = relinked_low old new n ino r o.low;
      links = λ i. elim (cases_eq i ino) [
        | inl e ↦ subst Q (sym e) (lost_here (name_count old n ino) (name_count new n ino) (one ino ino) (extra ino) (link_number ino (map.get old ino)) (link_number ino (map.get new ino))
            (relinked_counts old new n ino ino r) (one_same ino) less (o.links ino))
        | inr ne ↦ lost_other (name_count old n i) (name_count new n i) (one ino i) (extra i) (link_number i (map.get old i)) (link_number i (map.get new i))
            (relinked_counts old new n ino i r) (one_other ino i ne) (ap (link_number i) (r.others i ne)) (o.links i)
      ];
    }

gained_here : (a b x extra l l2 : ℕ) → b ≡ a → x ≡ 1 → l2 ≡ l + 1 → a + extra ≡ l → b + (x + extra) ≡ l2
gained_here a b x extra l l2 same is more h = omega arith

gained_other : (a b x extra l l2 : ℕ) → b ≡ a → x ≡ 0 → l2 ≡ l → a + extra ≡ l → b + (x + extra) ≡ l2
gained_other a b x extra l l2 same is more h = omega arith

pub gains : (old new : Nodes) (n ino : ℕ) (extra : ℕ → ℕ) → Relinked old new n ino → link_number ino (map.get new ino) ≡ link_number ino (map.get old ino) + 1 → Owes old n extra → Owes new n (λ i. one ino i + extra i)
gains old new n ino extra r more o =
    let Q : ℕ → Type 0 = λ i. name_count new n i + (one ino i + extra i) ≡ link_number i (map.get new i) in
    record {
      low = relinked_low old new n ino r o.low;
      links = λ i. elim (cases_eq i ino) [
        | inl e ↦ subst Q (sym e) (gained_here (name_count old n ino) (name_count new n ino) (one ino ino) (extra ino) (link_number ino (map.get old ino)) (link_number ino (map.get new ino))
            (relinked_counts old new n ino ino r) (one_same ino) more (o.links ino))
        | inr ne ↦ gained_other (name_count old n i) (name_count new n i) (one ino i) (extra i) (link_number i (map.get old i)) (link_number i (map.get new i))
            (relinked_counts old new n ino i r) (one_other ino i ne) (ap (link_number i) (r.others i ne)) (o.links i)
      ];
    }

pub relinks : (old new : Nodes) (n ino : ℕ) (extra : ℕ → ℕ) → Relinked old new n ino → link_number ino (map.get new ino) ≡ link_number ino (map.get old ino) → Owes old n extra → Owes new n extra
relinks old new n ino extra r same o =
    let Q : ℕ → Type 0 = λ i. link_number i (map.get old i) ≡ link_number i (map.get new i) in
    record {
      low = relinked_low old new n ino r o.low;
      links = λ i. ap (λ c. c + extra i) (relinked_counts old new n ino i r) ∙ o.links i ∙ elim (cases_eq i ino) as (λ x. Q i) [
        | inl e ↦ subst Q (sym e) (sym same)
        | inr ne ↦ sym (ap (link_number i) (r.others i ne))
      ];
    }
