-- What has been answered of a block.
use Rattle.std.proofs.Common.{◌≡◌, ℕ, suc, ◌+◌, ◌-◌, ◌≤◌, min, Bool, true, false, cond, ◌||◌, leb, List, [], ◌∷◌, ◌++◌, length, take, drop, Some, None, Option, sym, refl, ap, ◌∙◌, subst, append_assoc, append-nil, zero-add, arith, length-append, length-drop}
use Rattle.std.specs.Io.KnownBytes.{Appends, Consumes, IsAtEnd}
use Rattle.std.specs.List.{FoldsTo}
use Rattle.std.specs.Option.{IfSome}
use Rattle.std.proofs.lemmas.Bool.{cond-true, le-leb}
use Rattle.std.proofs.lemmas.Fn.{FoldsTo-push}
use Rattle.std.proofs.lemmas.List.{drop-drop, drop-take, drop_all, drop_min, length-take-le, take_at, take-append-le}
use borrow.Rule.Slice.PartMut.{put_mid}
use Rattle.wire.specs.Splitting.{Item, newline_at, lines, pending, items, left, goes_on, at_end, kept}
use Rattle.wire.specs.Feeding.{Adds, Prints, AnswersAll, AnswersBlock, AnswersInput, ReadsMore}
use Rattle.wire.proofs.Cutting.{stepped, at_the_end}

-- the items that were cut off a block are answered; the rest is still to be cut
pub record SoFar {S : Type 0} (answers : S → Item → S → List ℕ → Type 0) (s s' : S) (passing passing' : Bool) (block rest out out' : List ℕ) : Type 0 where
  pub taken : List Item
  pub text : List ℕ
  pub took : (later : List ℕ) → pending passing (block ++ later) ≡ taken ++ pending passing' (rest ++ later)
  pub printed : Prints answers s taken s' text
  pub grown : out' ≡ out ++ text

-- what is left of a block are its last bytes
abbrev pub Ends : List ℕ → List ℕ → Type 0
Ends rest block = (k : ℕ) × (rest ≡ drop k block)

kept_ends : (g : Bool) (s block : List ℕ) → Ends s block → Ends (cond g [] s) block
kept_ends true s block e = (length block, sym (drop_all (length block) block (omega arith)))
kept_ends false s block e = e

left_of : (passing : Bool) (s block : List ℕ) (o : Option ℕ) → Ends s block → Ends (left passing s o) block
left_of passing s block (Some at) (k, e) = (k + (at + 1), ap (drop (at + 1)) e ∙ drop-drop (at + 1) k block)
left_of passing s block None e = kept_ends (passing || leb 80 (length s)) s block e

pub left_ends : (passing : Bool) (s block rest : List ℕ) → rest ≡ left passing s (newline_at s) → Ends s block → Ends rest block
left_ends passing s block rest is e = rw is (left_of passing s block (newline_at s) e)

pub ends_at : (rest block : List ℕ) → Ends rest block → rest ≡ drop (length block - length rest) block
ends_at rest block (k, e) =
    let n : length block - length rest ≡ min k (length block) = omega (arith, ap length e, length-drop k block) in
    e ∙ sym (drop_min k block) ∙ ap (λ m. drop m block) (sym n)

-- where no item is answered no line ends in what is left
none_kept : (g : Bool) (s : List ℕ) → newline_at s ≡ None → newline_at (cond g [] s) ≡ None
none_kept true s e = refl
none_kept false s e = e

none_left : (passing : Bool) (s : List ℕ) (o : Option ℕ) → newline_at s ≡ o → ◌≡◌ {A = List Item} [] (items passing s o) → newline_at (left passing s o) ≡ None
none_left passing s (Some at) e i = cc
none_left passing s None e i = none_kept (passing || leb 80 (length s)) s e

module _ {S : Type 0} (answers : S → Item → S → List ℕ → Type 0) (s : S) (passing : Bool) (block out : List ℕ) where
  pub nothing_yet : SoFar answers s s passing passing block block out out
  nothing_yet = record { taken = []; text = []; took = λ later. refl; printed = refl; grown = sym (append-nil out) }

  module _ (s' : S) (passing' : Bool) (rest out' : List ℕ) (far : SoFar answers s s' passing passing' block rest out out') where
    took_on : (later : List ℕ) → pending passing (block ++ later) ≡ (far.taken ++ items passing' rest (newline_at rest)) ++ pending (goes_on passing' rest (newline_at rest)) (left passing' rest (newline_at rest) ++ later)
    took_on later =
        far.took later
        ∙ ap (λ l. far.taken ++ l) (stepped passing' rest later (newline_at rest) refl)
        ∙ sym (append_assoc far.taken (items passing' rest (newline_at rest)) _)

    pub one_more : (s'' : S) (passing'' : Bool) (rest' out'' : List ℕ) (item : Item) → item ∷ [] ≡ items passing' rest (newline_at rest) → passing'' ≡ goes_on passing' rest (newline_at rest) → rest' ≡ left passing' rest (newline_at rest) → Adds answers (s', out') item (s'', out'') → SoFar answers s s'' passing passing'' block rest' out out''
    one_more s'' passing'' rest' out'' item i p r (said, answered, added) = record {
      taken = far.taken ++ (item ∷ []);
      text = far.text ++ said;
      took = λ later. rw (i, p, r) (took_on later);
      printed = FoldsTo-push (Adds answers) _ far.taken (s', far.text) item (s'', far.text ++ said) far.printed (said, answered, refl);
      grown = added ∙ ap (λ l. l ++ said) far.grown ∙ append_assoc out far.text said;
    }

    pub done : (passing'' : Bool) (rest' : List ℕ) → [] ≡ items passing' rest (newline_at rest) → passing'' ≡ goes_on passing' rest (newline_at rest) → rest' ≡ left passing' rest (newline_at rest) → AnswersBlock answers s s' passing passing'' block rest' out out'
    done passing'' rest' i p r =
        let all : far.taken ++ items passing' rest (newline_at rest) ≡ far.taken = ap (λ l. far.taken ++ l) (sym i) ∙ append-nil far.taken in (
          far.taken,
          record { took = λ later. rw (p, r) (took_on later ∙ ap (λ l. l ++ pending (goes_on passing' rest (newline_at rest)) (left passing' rest (newline_at rest) ++ later)) all); none = rw r (none_left passing' rest _ refl i) },
          (far.text, far.printed, far.grown),
        )

-- what has been answered of an input whose bytes are known
pub record OfInput {S : Type 0} (answers : S → Item → S → List ℕ → Type 0) (s s' : S) (passing : Bool) (held : List ℕ) (reads : ℕ) (input : List ℕ) (unread before after : Option (List ℕ)) : Type 0 where
  pub rest : List ℕ
  pub unread_is : unread ≡ Some rest
  -- each read brought something
  pub counted : reads + length rest ≤ length input
  pub taken : List Item
  pub text : List ℕ
  pub came : lines input ≡ taken ++ pending passing (held ++ rest)
  pub printed : Prints answers s taken s' text
  pub written : Appends before after text

abbrev pub Fed : {S : Type 0} → (S → Item → S → List ℕ → Type 0) → S → S → Bool → List ℕ → ℕ → Option (List ℕ) → Option (List ℕ) → Option (List ℕ) → Option (List ℕ) → Type 0
Fed answers s s' passing held reads all unread before after = IfSome all (λ input. OfInput answers s s' passing held reads input unread before after)

appends_nothing : (known : Option (List ℕ)) → Appends known known []
appends_nothing None = tt
appends_nothing (Some xs) = sym (append-nil xs)

appends_more : (a b c : Option (List ℕ)) (text more : List ℕ) → Appends a b text → Appends b c more → Appends a c (text ++ more)
appends_more None b c text more p q = tt
appends_more (Some xs) None c text more p q = absurd p
appends_more (Some xs) (Some ys) None text more p q = absurd q
appends_more (Some xs) (Some ys) (Some zs) text more p q = q ∙ ap (λ l. l ++ more) p ∙ append_assoc xs text more

no_bytes : (l : List ℕ) → length l ≡ 0 → l ≡ []
no_bytes [] e = refl
no_bytes (x ∷ l) e = absurd (omega arith)

some_more : (held bytes block : List ℕ) → block ≡ held ++ bytes → (length block ≡ length held → ⊥) → 1 ≤ length bytes
some_more held [] block is more = absurd (more (omega (arith, ap length is, length-append held [])))
some_more held (x ∷ bytes) block is more = omega arith

still_unread : (unread unread' : Option (List ℕ)) (bytes rest : List ℕ) → unread ≡ Some rest → Consumes unread unread' bytes → (rest' : List ℕ) × (unread' ≡ Some rest') × (rest ≡ bytes ++ rest')
still_unread None unread' bytes rest e h = cc
still_unread (Some xs) None bytes rest e h = absurd h
still_unread (Some xs) (Some ys) bytes rest e h = (ys, refl, (cc))

all_read : (unread : Option (List ℕ)) (rest : List ℕ) → unread ≡ Some rest → IsAtEnd unread → rest ≡ []
all_read None rest e h = cc
all_read (Some xs) rest e h = cc

folds_on : {P A : Type 0} (R : P → A → P → Type 0) (xs ys : List A) (p q r : P) → FoldsTo R p xs q → FoldsTo R q ys r → FoldsTo R p (xs ++ ys) r
folds_on R [] ys p q r e h = subst (λ p. FoldsTo R p ys r) (sym e) h
folds_on R (x ∷ xs) ys p q r (j, step, rest) h = (j, step, folds_on R xs ys j q r rest h)

module _ {S : Type 0} (answers : S → Item → S → List ℕ → Type 0) where
  after_text : (before : List ℕ) (xs : List Item) (p q : S × List ℕ) → FoldsTo (Adds answers) p xs q → FoldsTo (Adds answers) (p.0, before ++ p.1) xs (q.0, before ++ q.1)
  after_text before [] p q e = ap (λ (p : S × List ℕ). (p.0, before ++ p.1)) e
  after_text before (x ∷ xs) p q (j, (text, answered, grown), rest) =
      ((j.0, before ++ j.1), (text, answered, ap (λ l. before ++ l) grown ∙ sym (append_assoc before p.1 text)), after_text before xs j q rest)

  prints_on : (xs ys : List Item) (s s' s'' : S) (text more : List ℕ) → Prints answers s xs s' text → Prints answers s' ys s'' more → Prints answers s (xs ++ ys) s'' (text ++ more)
  prints_on xs ys s s' s'' text more h k =
      folds_on (Adds answers) xs ys _ (s', text) _ h (subst (λ l. FoldsTo (Adds answers) (s', l) ys (s'', text ++ more)) (append-nil text) (after_text text ys (s', []) (s'', more) k))

  pub nothing_fed : (s : S) (passing : Bool) (all written : Option (List ℕ)) → passing ≡ false → Fed answers s s passing [] 0 all all written written
  nothing_fed s passing None written e = tt
  nothing_fed s passing (Some input) written e = record {
    rest = input;
    unread_is = refl;
    counted = omega arith;
    taken = [];
    text = [];
    came = rw e refl;
    printed = refl;
    written = appends_nothing written;
  }

  module _ (s s' s'' : S) (passing : Bool) (held block out out' : List ℕ) (reads : ℕ) where
    pub block_fed : (passing' : Bool) (held' : List ℕ) (all unread unread' before after after' : Option (List ℕ)) → Fed answers s s' passing held reads all unread before after → ReadsMore unread unread' held block → (length block ≡ length held → ⊥) → AnswersBlock answers s' s'' passing passing' block held' out out' → out ≡ [] → Appends after after' out' → Fed answers s s'' passing' held' (reads + 1) all unread' before after'
    block_fed passing' held' None unread unread' before after after' f r more a o w = tt
    block_fed passing' held' (Some input) unread unread' before after after' f (bytes, is, c, last) more (taken, cut, (text, printed, grown)) o w =
        let u = still_unread unread unread' bytes f.rest f.unread_is c in
        let some_bytes : 1 ≤ length bytes = some_more held bytes block is more in
        let said : out' ≡ text = grown ∙ ap (λ l. l ++ text) o in record {
          rest = u.0;
          unread_is = u.1;
          counted = omega (arith, f.counted, ap length u.2, length-append bytes u.0, ap length is, length-append held bytes, some_bytes);
          taken = f.taken ++ taken;
          text = f.text ++ text;
          came = f.came
              ∙ ap (λ l. f.taken ++ pending passing (held ++ l)) u.2
              ∙ ap (λ l. f.taken ++ pending passing l) (sym (append_assoc held bytes u.0))
              ∙ ap (λ l. f.taken ++ pending passing (l ++ u.0)) (sym is)
              ∙ ap (λ l. f.taken ++ l) (cut.took u.0)
              ∙ sym (append_assoc f.taken taken (pending passing' (held' ++ u.0)));
          printed = prints_on f.taken taken s s' s'' f.text text f.printed printed;
          written = appends_more before after after' f.text text f.written (subst (Appends after after') said w);
        }

    pub end_fed : (all unread unread' before after after' : Option (List ℕ)) → Fed answers s s' passing held reads all unread before after → ReadsMore unread unread' held block → length block ≡ length held → newline_at held ≡ None → AnswersAll answers s' (at_end passing block) s'' out out' → out ≡ [] → Appends after after' out' → AnswersInput answers s s'' all before after'
    end_fed None unread unread' before after after' f r e n a o w = tt
    end_fed (Some input) unread unread' before after after' f (bytes, is, c, last) e n (text, printed, grown) o w = λ few.
        let u = still_unread unread unread' bytes f.rest f.unread_is c in
        let said : out' ≡ text = grown ∙ ap (λ l. l ++ text) o in
        let none : bytes ≡ [] = no_bytes bytes (omega (arith, ap length is, length-append held bytes)) in
        let end : f.rest ≡ [] = u.2 ∙ ap (λ l. l ++ u.0) none ∙ all_read unread' u.0 u.1 (last none) in
        let same : block ≡ held = is ∙ ap (λ l. held ++ l) none ∙ append-nil held in
        let came : lines input ≡ f.taken ++ at_end passing block =
        f.came
        ∙ ap (λ l. f.taken ++ pending passing (held ++ l)) end
        ∙ ap (λ l. f.taken ++ pending passing l) (append-nil held)
        ∙ ap (λ l. f.taken ++ l) (at_the_end passing held n)
        ∙ ap (λ l. f.taken ++ at_end passing l) (sym same) in (
          f.text ++ text,
          subst (λ items. Prints answers s items s'' (f.text ++ text)) (sym came) (prints_on f.taken (at_end passing block) s s' s'' f.text text f.printed printed),
          appends_more before after after' f.text text f.written (subst (Appends after after') said w),
        )

  -- an input of which so much was read is longer than is answered
  pub too_long : (s s' s'' : S) (passing : Bool) (held : List ℕ) (reads : ℕ) (all unread before after after' : Option (List ℕ)) → Fed answers s s' passing held reads all unread before after → 18446744073709551615 ≤ reads → AnswersInput answers s s'' all before after'
  too_long s s' s'' passing held reads None unread before after after' f l = tt
  too_long s s' s'' passing held reads (Some input) unread before after after' f l = λ few. absurd (omega (arith, f.counted))

-- what `keep_last` keeps of a block is what was left of it
pub keeps_left : (b b' : List ℕ) (end left n : ℕ) → end ≤ length b → left ≤ length (take end b) → n ≡ kept b end left → b' ≡ take n (drop (end - n) b) ++ drop n b → take n b' ≡ drop (length (take end b) - left) (take end b)
keeps_left b b' end left n within few count bytes =
    let long : length (take end b) ≡ end = length-take-le end b within in
    let all : n ≡ left = count ∙ cond-true (leb end (length b)) _ _ (le-leb end (length b) within) ∙ cond-true (leb left end) left 0 (le-leb left end (omega arith)) in
    let back : end - left + left ≡ end = omega arith in
    let few' : length (take n (drop (end - n) b)) ≡ n = length-take-le n (drop (end - n) b) (omega (arith, length-drop (end - n) b)) in
    ap (take n) bytes
    ∙ take_at (take n (drop (end - n) b)) (drop n b) n few'
    ∙ ap (λ m. take m (drop (end - m) b)) all
    ∙ sym (drop-take (end - left) left b)
    ∙ ap (λ m. drop (end - left) (take m b)) back
    ∙ ap (λ m. drop (m - left) (take end b)) (sym long)

take_on : (p q : List ℕ) (n : ℕ) → take (length p + n) (p ++ q) ≡ p ++ take n q
take_on [] q n = rw zero-add refl
take_on (x ∷ p) q n = let far : length (x ∷ p) + n ≡ suc (length p + n) = omega arith in ap (λ m. take m (x ∷ (p ++ q))) far ∙ ap (λ l. x ∷ l) (take_on p q n)

-- what `read` put after the first bytes of a buffer
pub read_on : (held room count : ℕ) (b more : List ℕ) → held ≤ length b → count ≤ length more → take (held + count) (put_mid held room b more) ≡ take held b ++ take count more
read_on held room count b more h k =
    let long : held + count ≡ length (take held b) + count = omega (arith, length-take-le held b h) in
    ap (λ m. take m (put_mid held room b more)) long ∙ take_on (take held b) _ count ∙ ap (λ l. take held b ++ l) (take-append-le count more _ k)
