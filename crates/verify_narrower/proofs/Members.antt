-- Stores, receivers, delegates and names at a narrower frame.
use Rattle.std.proofs.Common.{◌≡◌, ◌≢◌, ℕ, zero, suc, Bool, true, false, List, [], ◌∷◌, Option, Some, None, length, slice_get, inl, inr, refl}
use Rattle.dc_base.specs.declared.names.TypeId.{TypeId}
use Rattle.dc_base.specs.declared.names.MemberId.{MemberId}
use Rattle.class_rows.specs.declared.row.MemberRow.{MemberRow}
use Rattle.class_rows.specs.declared.row.Sort.{Sort}
use Rattle.class_rows.specs.declared.row.Sort.TheVariants.{Constructor}
use Rattle.class_rows.specs.Members.{sort_of}
use Rattle.class_rows.specs.Lookups.{class_ty}
use Rattle.cil_rows.specs.declared.row.Row.{Row}
use Rattle.cil_rows.specs.declared.row.Row.TheVariants.{Call, New, Function, FieldAddress, StoreField}
use Rattle.verify_slots.specs.declared.slot.Slot.{Slot}
use Rattle.verify_slots.specs.declared.slot.Slot.TheVariants.{Code}
use Rattle.verify_slots.specs.declared.slot.Mark.{Mark}
use Rattle.verify_slots.specs.declared.slot.Mark.TheVariants.{This, Fresh, Other}
use Rattle.verify_slots.specs.Slots.{IsMarkIn, IsIn, AreIn}
use Rattle.verify_rules.specs.declared.setting.Setting.{Setting}
use Rattle.verify_rules.specs.declared.setting.Spot.{Spot}
use Rattle.verify_rules.specs.Look.{types_of, members_of, named_member, named_row, member_at}
use Rattle.verify_rules.specs.Slots.{IsMarked, Two}
use Rattle.verify_rules.specs.Puts.{this_depth}
use Rattle.verify_rules.specs.Kinds.{IsSo}
use Rattle.verify_rules.specs.Members.{IfSo, KeepsInitOnly, IsWritableOn, IsAddress, IsReceivedBy, IsReceived, KeepsReceiver, IsTarget, FitsInvoke, IsMadeOf, MakesDelegate, KeepsDelegate, invoke_of, IsReachedBy, IsReached, IsFunction, IsFunctionOf, IsNamed, KeepsAccess, member_named, token_of}
use Rattle.verify_narrower.proofs.View.{View, same, truth, refs, view, lower}
use Rattle.verify_narrower.proofs.Kept.{kept_null}
use Rattle.verify_narrower.proofs.Puts.{assignable_in}

mark_in : (wanted m n : Mark) → wanted ≢ Other → IsMarkIn m n → n ≡ wanted → m ≡ wanted
mark_in This m This other h e = h
mark_in Fresh m Fresh other h e = h
mark_in Other m n other h e = absurd (other refl)
mark_in This m Fresh other h e = cc
mark_in This m Other other h e = cc
mark_in Fresh m This other h e = cc
mark_in Fresh m Other other h e = cc

kept_mark : (wanted : Mark) → wanted ≢ Other → (a b : Slot) → IsIn a b → IsMarked wanted b → IsMarked wanted a
kept_mark wanted other = lower (IsMarked wanted) (λ h. absurd h) (λ s t m n sub mark h. mark_in wanted m n other mark h)

no_this : This ≢ Other
no_this e = cc

no_fresh : Fresh ≢ Other
no_fresh e = cc

-- what is there at the narrower frame is there at the wider one
if_more : {A : Type 0} (P Q : A → Type 0) → ((a : A) → P a → Q a) → (o : Option A) → IfSo P o → IfSo Q o
if_more P Q f None h = tt
if_more P Q f (Some a) h = f a h

-- a fact of a slot that a narrower one keeps, at a depth
so_at : (P : Slot → Type 0) → ((a b : Slot) → IsIn a b → P b → P a) → (f g : List Slot) (k : ℕ) → AreIn f g → IsSo P (slice_get g k) → IsSo P (slice_get f k)
so_at P kept [] [] k h so = absurd so
so_at P kept [] (b ∷ g) k h so = absurd h
so_at P kept (a ∷ f) [] k h so = absurd so
so_at P kept (a ∷ f) (b ∷ g) zero h so = kept a b h.0 so
so_at P kept (a ∷ f) (b ∷ g) (suc k) h so = so_at P kept f g k h.1 so

if_at : (P : Slot → Type 0) → ((a b : Slot) → IsIn a b → P b → P a) → (f g : List Slot) (k : ℕ) → AreIn f g → IfSo P (slice_get g k) → IfSo P (slice_get f k)
if_at P kept [] g k h so = tt
if_at P kept (a ∷ f) [] k h so = absurd h
if_at P kept (a ∷ f) (b ∷ g) zero h so = kept a b h.0 so
if_at P kept (a ∷ f) (b ∷ g) (suc k) h so = if_at P kept f g k h.1 so

module _ (s : Setting) (p : Spot) (f g : List Slot) (h : AreIn f g) where
  writable : (k : ℕ) (o : Option MemberRow) → IfSo (IsWritableOn s (slice_get g k)) o → IfSo (IsWritableOn s (slice_get f k)) o
  writable k o w = if_more (IsWritableOn s (slice_get g k)) (IsWritableOn s (slice_get f k)) (λ field on init. let r = on init in (r.0, so_at (IsMarked This) (kept_mark This no_this) f g k h r.1)) o w

  pub init_in : (row : Row) → KeepsInitOnly s row g → KeepsInitOnly s row f
  init_in (StoreField token) k = writable 1 (named_row s token) k
  init_in (FieldAddress token) k = writable 0 (named_row s token) k
  init_in _ k = k

  kept_address : (a b : Slot) → IsIn a b → IsAddress b → IsAddress a
  kept_address = lower IsAddress (λ k. absurd k) (λ xs t m n sub mark k. absurd k)

  received_by : (m : MemberId) (row : MemberRow) (sort : Sort) (a b : Slot) → IsIn a b → IsReceivedBy s p m row sort b → IsReceivedBy s p m row sort a
  received_by m row Constructor a b is k = (kept_mark This no_this a b is k.0, k.1)
  received_by m row _ a b is (inl k) = inl (kept_address a b is k)
  received_by m row _ a b is (inr (inl k)) = inr (inl (kept_mark This no_this a b is k.0, k.1))
  received_by m row _ a b is (inr (inr k)) = inr (inr (kept_mark Fresh no_fresh a b is k.0, k.1))

  received : (by_slot : Bool) (m : MemberId) (row : MemberRow) → IsReceived s p by_slot m g row → IsReceived s p by_slot m f row
  received true m row k = k
  received false m row k = (k.0, λ e. if_at (IsReceivedBy s p m row (sort_of row.kind)) (received_by m row (sort_of row.kind)) f g (length row.params) h (k.1 e))

  pub receiver_in : (row : Row) → KeepsReceiver s p row g → KeepsReceiver s p row f
  receiver_in (Call callee by_slot) k =
      if_more (λ m. IfSo (IsReceived s p by_slot m g) (member_at (members_of s) m)) (λ m. IfSo (IsReceived s p by_slot m f) (member_at (members_of s) m))
      (λ m there. if_more (IsReceived s p by_slot m g) (IsReceived s p by_slot m f) (λ row is. received by_slot m row is) (member_at (members_of s) m) there) (named_member s callee) k
  receiver_in (Function t true) k = k
  receiver_in (Function t false) k = k
  receiver_in _ k = k

  target : (row : MemberRow) (is_static : Bool) (a b : Slot) → IsIn a b → IsTarget s row is_static b → IsTarget s row is_static a
  target row true a b is k = kept_null a b is k
  target row false a b is k =
      lower (IsTarget s row false) (λ t. absurd t) (λ xs t m n sub mark all. assignable_in (types_of s) xs t (class_ty row.owner.0) sub all) a b is k

  invoked : (a b : Slot) → IsIn a b → (row invoke : MemberRow) → FitsInvoke s b row invoke → FitsInvoke s a row invoke
  invoked a b is row invoke k = (k.0, k.1, target row row.is_static a b is k.2)

  so_each : {A : Type 0} (P Q : A → Type 0) → ((a : A) → P a → Q a) → (o : Option A) → IsSo P o → IsSo Q o
  so_each P Q each None k = absurd k
  so_each P Q each (Some a) k = each a k

  made_of : (t : TypeId) (x a y : Slot) → IsIn x a → IsMadeOf s t a y → IsMadeOf s t x y
  made_of t x a (Code m) is k =
      so_each (λ row. IsSo (FitsInvoke s a row) (invoke_of s t)) (λ row. IsSo (FitsInvoke s x row) (invoke_of s t))
      (λ row so. so_each (FitsInvoke s a row) (FitsInvoke s x row) (λ invoke fit. invoked x a is row invoke fit) (invoke_of s t) so) (member_at (members_of s) m) k
  made_of t x a _ is k = tt

  made_by : (t : TypeId) (x a y b : Slot) → IsIn x a → View y b → IsMadeOf s t a b → IsMadeOf s t x y
  made_by t x a _ _ is (same y) k = made_of t x a y is k
  made_by t x a _ _ is truth k = tt
  made_by t x a _ _ is (refs xs u m n sub mark) k = tt

  two_made : (t : TypeId) (f g : List Slot) → AreIn f g → Two (IsMadeOf s t) g → Two (IsMadeOf s t) f
  two_made t f [] h k = absurd k
  two_made t f (b ∷ []) h k = absurd k
  two_made t [] (b ∷ a ∷ g) h k = absurd h
  two_made t (y ∷ []) (b ∷ a ∷ g) h k = absurd h.1
  two_made t (y ∷ x ∷ f) (b ∷ a ∷ g) h k = made_by t x a y b h.1.0 (view y b h.0) k

  pub delegate_in : (row : Row) → KeepsDelegate s row g → KeepsDelegate s row f
  delegate_in (New token) k = if_more (MakesDelegate s g) (MakesDelegate s f) (λ row makes is. two_made row.owner f g h (makes is)) (named_row s token) k
  delegate_in _ k = k

  reached_by : (m : MemberId) (a b : Slot) → IsIn a b → IsReachedBy s m b → IsReachedBy s m a
  reached_by m = lower (IsReachedBy s m) (λ k. tt) (λ xs t n o sub mark all ty has. all ty (sub ty has))

  reached_on : (row : Row) (m : MemberId) → (is_static : Bool) → (is_static ≡ false → IfSo (IsReachedBy s m) (slice_get g (this_depth s row))) → is_static ≡ false → IfSo (IsReachedBy s m) (slice_get f (this_depth s row))
  reached_on row m is_static k e = if_at (IsReachedBy s m) (reached_by m) f g (this_depth s row) h (k e)

  reached : (row : Row) (m : MemberId) (member : MemberRow) → IsReached s row g m member → IsReached s row f m member
  reached (New token) m member k = k
  reached row m member k = reached_on row m member.is_static k

  function : (by_slot : Bool) (m : MemberId) (row : MemberRow) → IsFunction s by_slot g m row → IsFunction s by_slot f m row
  function by_slot m row k = record {
    no_constructor = k.no_constructor;
    not_printed = k.not_printed;
    no_accessor = k.no_accessor;
    itself = λ e virt. let r = k.itself e virt in (so_at (IsMarked This) (kept_mark This no_this) f g 0 h r.0, r.1);
  }

  function_of : (row : Row) (m : MemberId) (member : MemberRow) → IsFunctionOf s row g m member → IsFunctionOf s row f m member
  function_of (Function t by_slot) m member k = function by_slot m member k
  function_of _ m member k = k

  named : (row : Row) (m : MemberId) (member : MemberRow) → IsNamed s row g m member → IsNamed s row f m member
  named row m member k = record {
    open_ = k.open_;
    reached = reached row m member k.reached;
    shown = k.shown;
    no_literal = k.no_literal;
    function = function_of row m member k.function;
  }

  pub access_in : (row : Row) → KeepsAccess s row g → KeepsAccess s row f
  access_in row k =
      if_more (λ m. IfSo (IsNamed s row g m) (member_at (members_of s) m)) (λ m. IfSo (IsNamed s row f m) (member_at (members_of s) m))
      (λ m there. if_more (IsNamed s row g m) (IsNamed s row f m) (λ member is. named row m member is) (member_at (members_of s) m) there) (member_named s (token_of row)) k
