-- What a client has sent, message after message.
use Rattle.std.proofs.Common.{◌≡◌, ℕ, Bool, true, false, List, [], ◌∷◌, ◌++◌, Option, Some, length, map, take, ap, sym, ◌∙◌}
use Rattle.std.proofs.lemmas.List.{append-nil, map-append, take_at}
use Rattle.std.proofs.lemmas.List.Elements.{filter_map-append}
use Rattle.std.specs.Iterator.{Yields}
use Rattle.std.specs.Vec.Iter.{into_iter_items, into_iter_steps}
use Rattle.std.specs.declared.vec.IntoIter.{IntoIter}
use Rattle.wq_values.specs.Known.{Known, IsSame}
use Rattle.example_log.specs.declared.sending.Client.{Client}
use Rattle.example_log.specs.declared.sending.ClientSent.{ClientSent}
use Rattle.example_log.specs.declared.message.Log.{Log}
use Rattle.example_log.specs.declared.message.Log.TheVariants.{Access, Errors}
use Rattle.example_log.specs.declared.message.Message.{Message}
use Rattle.example_log.specs.Text.{Line}
use Rattle.example_log.specs.Sent.{own_lines, brings, SendsUnlessTurned, HasSent, line_to, lines_to}

-- a message more, which was queued
pub sent_more : (log : Log) (ms : List Message) (m : Message) (q : Bool) (old new : List (Option Line))
    → q ≡ true → old ≡ map Some (lines_to log ms) → new ≡ old ++ brings log m q → new ≡ map Some (lines_to log (ms ++ m ∷ []))
sent_more log ms m q old new queued was is =
    is ∙ ((λ i. was i ++ brings log m (queued i)) ∙ (sym (map-append Some (lines_to log ms) (lines_to log (m ∷ [])))
    ∙ ap (map Some) (sym (filter_map-append (line_to log) ms (m ∷ [])))))

pub same_on : (a b c : Known) → IsSame a b → IsSame b c → IsSame a c
same_on a b c one two = record {
  queue_is = two.queue_is ∙ one.queue_is;
  layout_is = two.layout_is ∙ one.layout_is;
  number_is = two.number_is ∙ one.number_is;
}

-- what the iterator of a vector has given comes first among its items
pub given_first : {X Z : Type 0} (s : IntoIter X Z) (xs : List X) (t : IntoIter X Z) → Yields into_iter_steps s xs t
    → into_iter_items s ≡ xs ++ into_iter_items t
given_first s [] t gives = ap into_iter_items gives
given_first s (x ∷ xs) t gives = gives.1.0 ∙ ap (λ more. x ∷ more) (given_first gives.0 xs t gives.2)

-- so many of a list are those that come first
pub first_of : {X : Type 0} (n : ℕ) (all xs ys : List X) → n ≡ length xs → all ≡ xs ++ ys → xs ≡ take n all
first_of n all xs ys count is = sym (take_at xs ys n (sym count)) ∙ ap (take n) (sym is)

-- the client has sent the messages that came first, and all unless it was turned away
pub has_sent : (client : Client) (sent : ClientSent) (all ms rest : List Message) → sent.count ≡ length ms → all ≡ ms ++ rest
    → IsSame client.access.known sent.access.known → IsSame client.errors.known sent.errors.known
    → own_lines sent.access ≡ map Some (lines_to Access ms) → own_lines sent.errors ≡ map Some (lines_to Errors ms)
    → SendsUnlessTurned client.access.known.number all sent.count sent.access.known.seen sent.errors.known.seen → HasSent client all sent
has_sent client sent all ms rest count is one two access errors ends = record {
  same_access = one;
  same_errors = two;
  to_access = access ∙ ap (λ (xs : List Message). map Some (lines_to Access xs)) (first_of sent.count all ms rest count is);
  to_errors = errors ∙ ap (λ (xs : List Message). map Some (lines_to Errors xs)) (first_of sent.count all ms rest count is);
  all_sent = ends;
}

-- a message that was not queued brings nothing
pub none_more : (log : Log) (m : Message) (q : Bool) (old new was : List (Option Line)) → q ≡ false → old ≡ was
    → new ≡ old ++ brings log m q → new ≡ was
none_more log m q old new was left same is = is ∙ (ap (λ b. old ++ brings log m b) left ∙ (append-nil old ∙ same))
