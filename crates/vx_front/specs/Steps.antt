-- What each kind of step makes of a view, and what it tells its seat.
use Rattle.std.specs.Prelude.{ℕ, ◌≡◌, ◌+◌, ◌≤◌, List, [], ◌∷◌, ◌++◌, length}
use mathlib.Core.List.{IsPrefix}
use Rattle.atomic_table.specs.Table.{Me, Step}
use Rattle.vx_front.specs.declared.views.Entry.{Entry}
use Rattle.vx_front.specs.declared.views.View.{View}
use Rattle.vx_front.specs.declared.views.View.TheVariants.{Kernel, Caller, Note, Spent}
use Rattle.vx_front.specs.declared.views.KernelView.{KernelView}
use Rattle.vx_front.specs.declared.views.CallerView.{CallerView}
use Rattle.vx_front.specs.Views.{with_front, calls_by, known_of, told_of, new_kernel, new_caller, with_caller, with_fronts, with_entry, with_ended, with_read, with_begun, with_answer, kernel_note, caller_note, kernel_with_note, caller_with_note}
use Rattle.vx_front.specs.Rule.{RisesFrom, IsPublished, AllPublished}

-- what the rule says of a caller's own view: all that it was told of stands in one log
pub record CallerFacts (c : CallerView) : Type 0 where
  pub log : List Entry
  pub past : IsPrefix c.past log
  pub seen : IsPrefix c.seen log
  pub note : IsPrefix c.note log
  pub mine : IsPrefix c.mine (calls_by c.number log)
  pub opened : length (calls_by c.number log) ≤ c.begun

-- what the rule says of a caller that has ended
pub record EndedFacts (k : KernelView) (c : CallerView) : Type 0 where
  pub front : IsPublished k.fronts c.front
  pub reads : AllPublished k.fronts c.reads
  pub seen : IsPrefix c.seen k.log
  pub mine : IsPrefix c.mine (calls_by c.number k.log)
  pub opened : length (calls_by c.number k.log) ≤ c.begun

abbrev pub AllEnded : KernelView → List CallerView → Type 0
AllEnded k [] = Unit {0}
AllEnded k (c ∷ cs) = EndedFacts k c × AllEnded k cs

-- what the rule says of the kernel's own view
pub record KernelFacts (k : KernelView) : Type 0 where
  pub rises : RisesFrom 0 k.fronts
  pub told : (n : ℕ) → IsPrefix (told_of k n) (calls_by n k.log)
  pub known_len : length k.known ≡ k.made + 1
  pub told_len : length k.told ≡ k.made + 1
  pub ended : AllEnded k k.ended

-- what the kernel and a caller know of each other once they have met
pub record Agrees (k : KernelView) (c : CallerView) : Type 0 where
  pub seen : IsPrefix k.log c.seen
  pub mine : IsPrefix c.mine (calls_by c.number k.log)
  pub opened : length (calls_by c.number k.log) ≤ c.begun
  pub known : c.begun ≤ known_of k c.number

-- the caller has no call begun: each that it began was answered
abbrev pub IsIdle : CallerView → Type 0
IsIdle c = c.begun ≡ length c.mine

-- The call e was answered: k and c are what the kernel and its caller knew before, l and d what they know then
pub record IsAnswered (e : Entry) (front : ℕ) (k : KernelView) (c : CallerView) (l : KernelView) (d : CallerView) : Type 0 where
  pub log : l.log ≡ k.log ++ e ∷ []
  pub fronts : l.fronts ≡ with_front k.fronts front
  pub made : l.made ≡ k.made
  pub ended : l.ended ≡ k.ended
  pub number : d.number ≡ c.number
  pub mine : d.mine ≡ c.mine ++ e ∷ []
  -- the log has the caller's answered calls and no others of it
  pub all : calls_by c.number l.log ≡ d.mine
  pub idle : IsIdle d
  pub later : IsPrefix c.seen d.seen
  pub seen : IsPrefix l.log d.seen
  pub reads : d.reads ≡ c.reads
  pub reaches : front ≤ d.front
  pub rises : c.front ≤ d.front

-- a caller is made

abbrev pub view_after_split : View → View
view_after_split (Kernel k) = Kernel (with_caller k)
view_after_split (Caller c) = Caller c
view_after_split (Note n) = Note n
view_after_split Spent = Spent

abbrev pub next_caller_view : View → View
next_caller_view (Kernel k) = Caller (new_caller (k.made + 1))
next_caller_view (Caller c) = Spent
next_caller_view (Note n) = Spent
next_caller_view Spent = Spent

-- a note is made, and taken in

abbrev pub note_of : View → View
note_of (Kernel k) = Note (kernel_note k)
note_of (Caller c) = Note (caller_note c)
note_of (Note n) = Spent
note_of Spent = Spent

-- the kernel takes in notes and callers that have ended, a caller takes in notes
abbrev pub joined_view : View → View → View
joined_view (Kernel k) (Note n) = Kernel (kernel_with_note k n)
joined_view (Kernel k) (Caller c) = Kernel (with_ended k c)
joined_view (Kernel k) (Kernel l) = Kernel k
joined_view (Kernel k) Spent = Kernel k
joined_view (Caller c) (Note n) = Caller (caller_with_note c n)
joined_view (Caller c) (Kernel k) = Caller c
joined_view (Caller c) (Caller d) = Caller c
joined_view (Caller c) Spent = Caller c
joined_view (Note n) w = Note n
joined_view Spent w = Spent

abbrev pub spent_view : View
spent_view = Spent

-- a caller reads the front

abbrev pub Reads : View → ℕ → View → Type 0
Reads (Caller c) f w = (w ≡ Caller (with_read c f)) × (c.front ≤ f)
Reads (Kernel k) f w = w ≡ Kernel k
Reads (Note n) f w = w ≡ Note n
Reads Spent f w = w ≡ Spent

abbrev pub is_read : Step ℕ → Me ℕ View → ℕ → Me ℕ View → Type 0
is_read s me found after = Reads me.0 found after.0 × (after.1 ≡ me.1)

-- a seat looks, and learns what the rule says of its view

abbrev pub Looks : View → View → Type 0
Looks (Caller c) w = (w ≡ Caller c) × CallerFacts c
Looks (Kernel k) w = (w ≡ Kernel k) × KernelFacts k
Looks (Note n) w = w ≡ Note n
Looks Spent w = w ≡ Spent

abbrev pub is_look : Step ℕ → Me ℕ View → ℕ → Me ℕ View → Type 0
is_look s me found after = Looks me.0 after.0 × (after.1 ≡ me.1)

-- the kernel publishes a front

abbrev pub Publishes : View → ℕ → View → Type 0
Publishes (Kernel k) new w = w ≡ Kernel (with_fronts k (with_front k.fronts new))
Publishes (Caller c) new w = w ≡ Caller c
Publishes (Note n) new w = w ≡ Note n
Publishes Spent new w = w ≡ Spent

abbrev pub is_publish : Step ℕ → Me ℕ View → ℕ → Me ℕ View → Type 0
is_publish s me found after = Publishes me.0 s.first after.0 × (after.1 ≡ me.1)

-- a caller begins a call

abbrev pub Begins : View → View → Type 0
Begins (Caller c) w = w ≡ Caller (with_begun c)
Begins (Kernel k) w = w ≡ Kernel k
Begins (Note n) w = w ≡ Note n
Begins Spent w = w ≡ Spent

abbrev pub is_begin : Step ℕ → Me ℕ View → ℕ → Me ℕ View → Type 0
is_begin s me found after = Begins me.0 after.0 × (after.1 ≡ me.1)

-- the kernel opens a call: its log has the entry

abbrev pub Opens : Entry → View → View → Type 0
Opens e (Kernel k) w = w ≡ Kernel (with_entry k e)
Opens e (Caller c) w = w ≡ Caller c
Opens e (Note n) w = w ≡ Note n
Opens e Spent w = w ≡ Spent

abbrev pub is_open : Entry → Step ℕ → Me ℕ View → ℕ → Me ℕ View → Type 0
is_open e s me found after = Opens e me.0 after.0 × (after.1 ≡ me.1)

-- the caller closes it: it has its answer

abbrev pub Closes : Entry → View → View → Type 0
Closes e (Caller c) w = w ≡ Caller (with_answer c e)
Closes e (Kernel k) w = w ≡ Kernel k
Closes e (Note n) w = w ≡ Note n
Closes e Spent w = w ≡ Spent

abbrev pub is_close : Entry → Step ℕ → Me ℕ View → ℕ → Me ℕ View → Type 0
is_close e s me found after = Closes e me.0 after.0 × (after.1 ≡ me.1)

-- what a seat knows, by its view

abbrev pub kernel_in : View → KernelView
kernel_in (Kernel k) = k
kernel_in (Caller c) = new_kernel 0
kernel_in (Note n) = new_kernel 0
kernel_in Spent = new_kernel 0

abbrev pub caller_in : View → CallerView
caller_in (Caller c) = c
caller_in (Kernel k) = new_caller 0
caller_in (Note n) = new_caller 0
caller_in Spent = new_caller 0
