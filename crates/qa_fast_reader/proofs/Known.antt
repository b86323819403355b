-- Of the names of an event's keys, those of a key's length are all that it can be.
use Rattle.std.proofs.Common.{◌≡◌, ◌∙◌, ℕ, List, [], ◌∷◌, Bool, true, false, length, codes, refl, arith}
use Rattle.std.specs.Prelude.{◌||◌, nat_eq}
use Rattle.std.specs.Str.{bytes_eq}
use Rattle.std.proofs.lemmas.Bool.{and_right}
use Rattle.qa_fast_reader.specs.Found.{is_known}

differ : (name key : List ℕ) → (length name ≡ length key → ⊥) → bytes_eq name key ≡ false
differ [] [] apart = absurd (apart refl)
differ [] (y ∷ ys) apart = refl
differ (x ∷ xs) [] apart = refl
differ (x ∷ xs) (y ∷ ys) apart = and_right (nat_eq x y) (bytes_eq xs ys) (differ xs ys (λ e. apart (omega (arith, e))))

-- a name of another length
other : (name key : List ℕ) (m n : ℕ) → length name ≡ m → length key ≡ n → (m ≡ n → ⊥) → bytes_eq name key ≡ false
other name key m n of_name of_key apart = differ name key (λ e. apart (omega (arith, e, of_name, of_key)))

-- whether one of the names is that of the key
abbrev one_of : Bool → Bool → Bool → Bool → Bool → Bool → Bool → Bool → Bool → Bool → Bool → Bool → Bool → Bool → Bool → Bool → Bool → Bool → Bool → Bool
one_of event time space number size eliciting in_flight leave ranges delay limited kind window ssthresh bytes_in_flight latest_rtt min_rtt smoothed_rtt rttvar =
    (event || time || space || number || size || eliciting || in_flight || leave || ranges || delay || limited || kind)
    || (window || ssthresh || bytes_in_flight || latest_rtt || min_rtt || smoothed_rtt || rttvar)

four : (a b c : Bool) → one_of false a false false b false false false false false false c false false false false false false false ≡ (a || b || c)
four true b c = refl
four false true c = refl
four false false true = refl
four false false false = refl

pub known_of_four : (key : List ℕ) → length key ≡ 4 → is_known key ≡ (bytes_eq (codes "time") key || bytes_eq (codes "size") key || bytes_eq (codes "kind") key)
known_of_four key long = (λ i. one_of (other (codes "event") key 5 4 refl long (λ e. omega (arith, e)) i) (bytes_eq (codes "time") key) (other (codes "space") key 5 4 refl long (λ e. omega (arith, e)) i) (other (codes "number") key 6 4 refl long (λ e. omega (arith, e)) i) (bytes_eq (codes "size") key) (other (codes "eliciting") key 9 4 refl long (λ e. omega (arith, e)) i) (other (codes "in_flight") key 9 4 refl long (λ e. omega (arith, e)) i) (other (codes "leave") key 5 4 refl long (λ e. omega (arith, e)) i) (other (codes "ranges") key 6 4 refl long (λ e. omega (arith, e)) i) (other (codes "delay") key 5 4 refl long (λ e. omega (arith, e)) i) (other (codes "limited") key 7 4 refl long (λ e. omega (arith, e)) i) (bytes_eq (codes "kind") key) (other (codes "window") key 6 4 refl long (λ e. omega (arith, e)) i) (other (codes "ssthresh") key 8 4 refl long (λ e. omega (arith, e)) i) (other (codes "bytes_in_flight") key 15 4 refl long (λ e. omega (arith, e)) i) (other (codes "latest_rtt") key 10 4 refl long (λ e. omega (arith, e)) i) (other (codes "min_rtt") key 7 4 refl long (λ e. omega (arith, e)) i) (other (codes "smoothed_rtt") key 12 4 refl long (λ e. omega (arith, e)) i) (other (codes "rttvar") key 6 4 refl long (λ e. omega (arith, e)) i))
    ∙ four (bytes_eq (codes "time") key) (bytes_eq (codes "size") key) (bytes_eq (codes "kind") key)

five : (a b c d : Bool) → one_of a false b false false false false c false d false false false false false false false false false ≡ (a || b || c || d)
five true b c d = refl
five false true c d = refl
five false false true d = refl
five false false false true = refl
five false false false false = refl

pub known_of_five : (key : List ℕ) → length key ≡ 5 → is_known key ≡ (bytes_eq (codes "event") key || bytes_eq (codes "space") key || bytes_eq (codes "leave") key || bytes_eq (codes "delay") key)
known_of_five key long = (λ i. one_of (bytes_eq (codes "event") key) (other (codes "time") key 4 5 refl long (λ e. omega (arith, e)) i) (bytes_eq (codes "space") key) (other (codes "number") key 6 5 refl long (λ e. omega (arith, e)) i) (other (codes "size") key 4 5 refl long (λ e. omega (arith, e)) i) (other (codes "eliciting") key 9 5 refl long (λ e. omega (arith, e)) i) (other (codes "in_flight") key 9 5 refl long (λ e. omega (arith, e)) i) (bytes_eq (codes "leave") key) (other (codes "ranges") key 6 5 refl long (λ e. omega (arith, e)) i) (bytes_eq (codes "delay") key) (other (codes "limited") key 7 5 refl long (λ e. omega (arith, e)) i) (other (codes "kind") key 4 5 refl long (λ e. omega (arith, e)) i) (other (codes "window") key 6 5 refl long (λ e. omega (arith, e)) i) (other (codes "ssthresh") key 8 5 refl long (λ e. omega (arith, e)) i) (other (codes "bytes_in_flight") key 15 5 refl long (λ e. omega (arith, e)) i) (other (codes "latest_rtt") key 10 5 refl long (λ e. omega (arith, e)) i) (other (codes "min_rtt") key 7 5 refl long (λ e. omega (arith, e)) i) (other (codes "smoothed_rtt") key 12 5 refl long (λ e. omega (arith, e)) i) (other (codes "rttvar") key 6 5 refl long (λ e. omega (arith, e)) i))
    ∙ five (bytes_eq (codes "event") key) (bytes_eq (codes "space") key) (bytes_eq (codes "leave") key) (bytes_eq (codes "delay") key)

six : (a b c d : Bool) → one_of false false false a false false false false b false false false c false false false false false d ≡ (a || b || c || d)
six true b c d = refl
six false true c d = refl
six false false true d = refl
six false false false true = refl
six false false false false = refl

pub known_of_six : (key : List ℕ) → length key ≡ 6 → is_known key ≡ (bytes_eq (codes "number") key || bytes_eq (codes "ranges") key || bytes_eq (codes "window") key || bytes_eq (codes "rttvar") key)
known_of_six key long = (λ i. one_of (other (codes "event") key 5 6 refl long (λ e. omega (arith, e)) i) (other (codes "time") key 4 6 refl long (λ e. omega (arith, e)) i) (other (codes "space") key 5 6 refl long (λ e. omega (arith, e)) i) (bytes_eq (codes "number") key) (other (codes "size") key 4 6 refl long (λ e. omega (arith, e)) i) (other (codes "eliciting") key 9 6 refl long (λ e. omega (arith, e)) i) (other (codes "in_flight") key 9 6 refl long (λ e. omega (arith, e)) i) (other (codes "leave") key 5 6 refl long (λ e. omega (arith, e)) i) (bytes_eq (codes "ranges") key) (other (codes "delay") key 5 6 refl long (λ e. omega (arith, e)) i) (other (codes "limited") key 7 6 refl long (λ e. omega (arith, e)) i) (other (codes "kind") key 4 6 refl long (λ e. omega (arith, e)) i) (bytes_eq (codes "window") key) (other (codes "ssthresh") key 8 6 refl long (λ e. omega (arith, e)) i) (other (codes "bytes_in_flight") key 15 6 refl long (λ e. omega (arith, e)) i) (other (codes "latest_rtt") key 10 6 refl long (λ e. omega (arith, e)) i) (other (codes "min_rtt") key 7 6 refl long (λ e. omega (arith, e)) i) (other (codes "smoothed_rtt") key 12 6 refl long (λ e. omega (arith, e)) i) (bytes_eq (codes "rttvar") key))
    ∙ six (bytes_eq (codes "number") key) (bytes_eq (codes "ranges") key) (bytes_eq (codes "window") key) (bytes_eq (codes "rttvar") key)

seven : (a b : Bool) → one_of false false false false false false false false false false a false false false false false b false false ≡ (a || b)
seven true b = refl
seven false true = refl
seven false false = refl

pub known_of_seven : (key : List ℕ) → length key ≡ 7 → is_known key ≡ (bytes_eq (codes "limited") key || bytes_eq (codes "min_rtt") key)
known_of_seven key long = (λ i. one_of (other (codes "event") key 5 7 refl long (λ e. omega (arith, e)) i) (other (codes "time") key 4 7 refl long (λ e. omega (arith, e)) i) (other (codes "space") key 5 7 refl long (λ e. omega (arith, e)) i) (other (codes "number") key 6 7 refl long (λ e. omega (arith, e)) i) (other (codes "size") key 4 7 refl long (λ e. omega (arith, e)) i) (other (codes "eliciting") key 9 7 refl long (λ e. omega (arith, e)) i) (other (codes "in_flight") key 9 7 refl long (λ e. omega (arith, e)) i) (other (codes "leave") key 5 7 refl long (λ e. omega (arith, e)) i) (other (codes "ranges") key 6 7 refl long (λ e. omega (arith, e)) i) (other (codes "delay") key 5 7 refl long (λ e. omega (arith, e)) i) (bytes_eq (codes "limited") key) (other (codes "kind") key 4 7 refl long (λ e. omega (arith, e)) i) (other (codes "window") key 6 7 refl long (λ e. omega (arith, e)) i) (other (codes "ssthresh") key 8 7 refl long (λ e. omega (arith, e)) i) (other (codes "bytes_in_flight") key 15 7 refl long (λ e. omega (arith, e)) i) (other (codes "latest_rtt") key 10 7 refl long (λ e. omega (arith, e)) i) (bytes_eq (codes "min_rtt") key) (other (codes "smoothed_rtt") key 12 7 refl long (λ e. omega (arith, e)) i) (other (codes "rttvar") key 6 7 refl long (λ e. omega (arith, e)) i))
    ∙ seven (bytes_eq (codes "limited") key) (bytes_eq (codes "min_rtt") key)

eight : (a : Bool) → one_of false false false false false false false false false false false false false a false false false false false ≡ (a)
eight true = refl
eight false = refl

pub known_of_eight : (key : List ℕ) → length key ≡ 8 → is_known key ≡ (bytes_eq (codes "ssthresh") key)
known_of_eight key long = (λ i. one_of (other (codes "event") key 5 8 refl long (λ e. omega (arith, e)) i) (other (codes "time") key 4 8 refl long (λ e. omega (arith, e)) i) (other (codes "space") key 5 8 refl long (λ e. omega (arith, e)) i) (other (codes "number") key 6 8 refl long (λ e. omega (arith, e)) i) (other (codes "size") key 4 8 refl long (λ e. omega (arith, e)) i) (other (codes "eliciting") key 9 8 refl long (λ e. omega (arith, e)) i) (other (codes "in_flight") key 9 8 refl long (λ e. omega (arith, e)) i) (other (codes "leave") key 5 8 refl long (λ e. omega (arith, e)) i) (other (codes "ranges") key 6 8 refl long (λ e. omega (arith, e)) i) (other (codes "delay") key 5 8 refl long (λ e. omega (arith, e)) i) (other (codes "limited") key 7 8 refl long (λ e. omega (arith, e)) i) (other (codes "kind") key 4 8 refl long (λ e. omega (arith, e)) i) (other (codes "window") key 6 8 refl long (λ e. omega (arith, e)) i) (bytes_eq (codes "ssthresh") key) (other (codes "bytes_in_flight") key 15 8 refl long (λ e. omega (arith, e)) i) (other (codes "latest_rtt") key 10 8 refl long (λ e. omega (arith, e)) i) (other (codes "min_rtt") key 7 8 refl long (λ e. omega (arith, e)) i) (other (codes "smoothed_rtt") key 12 8 refl long (λ e. omega (arith, e)) i) (other (codes "rttvar") key 6 8 refl long (λ e. omega (arith, e)) i))
    ∙ eight (bytes_eq (codes "ssthresh") key)

nine : (a b : Bool) → one_of false false false false false a b false false false false false false false false false false false false ≡ (a || b)
nine true b = refl
nine false true = refl
nine false false = refl

pub known_of_nine : (key : List ℕ) → length key ≡ 9 → is_known key ≡ (bytes_eq (codes "eliciting") key || bytes_eq (codes "in_flight") key)
known_of_nine key long = (λ i. one_of (other (codes "event") key 5 9 refl long (λ e. omega (arith, e)) i) (other (codes "time") key 4 9 refl long (λ e. omega (arith, e)) i) (other (codes "space") key 5 9 refl long (λ e. omega (arith, e)) i) (other (codes "number") key 6 9 refl long (λ e. omega (arith, e)) i) (other (codes "size") key 4 9 refl long (λ e. omega (arith, e)) i) (bytes_eq (codes "eliciting") key) (bytes_eq (codes "in_flight") key) (other (codes "leave") key 5 9 refl long (λ e. omega (arith, e)) i) (other (codes "ranges") key 6 9 refl long (λ e. omega (arith, e)) i) (other (codes "delay") key 5 9 refl long (λ e. omega (arith, e)) i) (other (codes "limited") key 7 9 refl long (λ e. omega (arith, e)) i) (other (codes "kind") key 4 9 refl long (λ e. omega (arith, e)) i) (other (codes "window") key 6 9 refl long (λ e. omega (arith, e)) i) (other (codes "ssthresh") key 8 9 refl long (λ e. omega (arith, e)) i) (other (codes "bytes_in_flight") key 15 9 refl long (λ e. omega (arith, e)) i) (other (codes "latest_rtt") key 10 9 refl long (λ e. omega (arith, e)) i) (other (codes "min_rtt") key 7 9 refl long (λ e. omega (arith, e)) i) (other (codes "smoothed_rtt") key 12 9 refl long (λ e. omega (arith, e)) i) (other (codes "rttvar") key 6 9 refl long (λ e. omega (arith, e)) i))
    ∙ nine (bytes_eq (codes "eliciting") key) (bytes_eq (codes "in_flight") key)

ten : (a : Bool) → one_of false false false false false false false false false false false false false false false a false false false ≡ (a)
ten true = refl
ten false = refl

pub known_of_ten : (key : List ℕ) → length key ≡ 10 → is_known key ≡ (bytes_eq (codes "latest_rtt") key)
known_of_ten key long = (λ i. one_of (other (codes "event") key 5 10 refl long (λ e. omega (arith, e)) i) (other (codes "time") key 4 10 refl long (λ e. omega (arith, e)) i) (other (codes "space") key 5 10 refl long (λ e. omega (arith, e)) i) (other (codes "number") key 6 10 refl long (λ e. omega (arith, e)) i) (other (codes "size") key 4 10 refl long (λ e. omega (arith, e)) i) (other (codes "eliciting") key 9 10 refl long (λ e. omega (arith, e)) i) (other (codes "in_flight") key 9 10 refl long (λ e. omega (arith, e)) i) (other (codes "leave") key 5 10 refl long (λ e. omega (arith, e)) i) (other (codes "ranges") key 6 10 refl long (λ e. omega (arith, e)) i) (other (codes "delay") key 5 10 refl long (λ e. omega (arith, e)) i) (other (codes "limited") key 7 10 refl long (λ e. omega (arith, e)) i) (other (codes "kind") key 4 10 refl long (λ e. omega (arith, e)) i) (other (codes "window") key 6 10 refl long (λ e. omega (arith, e)) i) (other (codes "ssthresh") key 8 10 refl long (λ e. omega (arith, e)) i) (other (codes "bytes_in_flight") key 15 10 refl long (λ e. omega (arith, e)) i) (bytes_eq (codes "latest_rtt") key) (other (codes "min_rtt") key 7 10 refl long (λ e. omega (arith, e)) i) (other (codes "smoothed_rtt") key 12 10 refl long (λ e. omega (arith, e)) i) (other (codes "rttvar") key 6 10 refl long (λ e. omega (arith, e)) i))
    ∙ ten (bytes_eq (codes "latest_rtt") key)

twelve : (a : Bool) → one_of false false false false false false false false false false false false false false false false false a false ≡ (a)
twelve true = refl
twelve false = refl

pub known_of_twelve : (key : List ℕ) → length key ≡ 12 → is_known key ≡ (bytes_eq (codes "smoothed_rtt") key)
known_of_twelve key long = (λ i. one_of (other (codes "event") key 5 12 refl long (λ e. omega (arith, e)) i) (other (codes "time") key 4 12 refl long (λ e. omega (arith, e)) i) (other (codes "space") key 5 12 refl long (λ e. omega (arith, e)) i) (other (codes "number") key 6 12 refl long (λ e. omega (arith, e)) i) (other (codes "size") key 4 12 refl long (λ e. omega (arith, e)) i) (other (codes "eliciting") key 9 12 refl long (λ e. omega (arith, e)) i) (other (codes "in_flight") key 9 12 refl long (λ e. omega (arith, e)) i) (other (codes "leave") key 5 12 refl long (λ e. omega (arith, e)) i) (other (codes "ranges") key 6 12 refl long (λ e. omega (arith, e)) i) (other (codes "delay") key 5 12 refl long (λ e. omega (arith, e)) i) (other (codes "limited") key 7 12 refl long (λ e. omega (arith, e)) i) (other (codes "kind") key 4 12 refl long (λ e. omega (arith, e)) i) (other (codes "window") key 6 12 refl long (λ e. omega (arith, e)) i) (other (codes "ssthresh") key 8 12 refl long (λ e. omega (arith, e)) i) (other (codes "bytes_in_flight") key 15 12 refl long (λ e. omega (arith, e)) i) (other (codes "latest_rtt") key 10 12 refl long (λ e. omega (arith, e)) i) (other (codes "min_rtt") key 7 12 refl long (λ e. omega (arith, e)) i) (bytes_eq (codes "smoothed_rtt") key) (other (codes "rttvar") key 6 12 refl long (λ e. omega (arith, e)) i))
    ∙ twelve (bytes_eq (codes "smoothed_rtt") key)

fifteen : (a : Bool) → one_of false false false false false false false false false false false false false false a false false false false ≡ (a)
fifteen true = refl
fifteen false = refl

pub known_of_fifteen : (key : List ℕ) → length key ≡ 15 → is_known key ≡ (bytes_eq (codes "bytes_in_flight") key)
known_of_fifteen key long = (λ i. one_of (other (codes "event") key 5 15 refl long (λ e. omega (arith, e)) i) (other (codes "time") key 4 15 refl long (λ e. omega (arith, e)) i) (other (codes "space") key 5 15 refl long (λ e. omega (arith, e)) i) (other (codes "number") key 6 15 refl long (λ e. omega (arith, e)) i) (other (codes "size") key 4 15 refl long (λ e. omega (arith, e)) i) (other (codes "eliciting") key 9 15 refl long (λ e. omega (arith, e)) i) (other (codes "in_flight") key 9 15 refl long (λ e. omega (arith, e)) i) (other (codes "leave") key 5 15 refl long (λ e. omega (arith, e)) i) (other (codes "ranges") key 6 15 refl long (λ e. omega (arith, e)) i) (other (codes "delay") key 5 15 refl long (λ e. omega (arith, e)) i) (other (codes "limited") key 7 15 refl long (λ e. omega (arith, e)) i) (other (codes "kind") key 4 15 refl long (λ e. omega (arith, e)) i) (other (codes "window") key 6 15 refl long (λ e. omega (arith, e)) i) (other (codes "ssthresh") key 8 15 refl long (λ e. omega (arith, e)) i) (bytes_eq (codes "bytes_in_flight") key) (other (codes "latest_rtt") key 10 15 refl long (λ e. omega (arith, e)) i) (other (codes "min_rtt") key 7 15 refl long (λ e. omega (arith, e)) i) (other (codes "smoothed_rtt") key 12 15 refl long (λ e. omega (arith, e)) i) (other (codes "rttvar") key 6 15 refl long (λ e. omega (arith, e)) i))
    ∙ fifteen (bytes_eq (codes "bytes_in_flight") key)

-- a key of none of these lengths
pub unknown_length : (key : List ℕ) → (length key ≡ 4 → ⊥) → (length key ≡ 5 → ⊥) → (length key ≡ 6 → ⊥) → (length key ≡ 7 → ⊥) → (length key ≡ 8 → ⊥) → (length key ≡ 9 → ⊥) → (length key ≡ 10 → ⊥) → (length key ≡ 12 → ⊥) → (length key ≡ 15 → ⊥) → is_known key ≡ false
unknown_length key not_four not_five not_six not_seven not_eight not_nine not_ten not_twelve not_fifteen =
    (λ i. one_of (differ (codes "event") key (λ e. not_five (omega (arith, e))) i) (differ (codes "time") key (λ e. not_four (omega (arith, e))) i) (differ (codes "space") key (λ e. not_five (omega (arith, e))) i) (differ (codes "number") key (λ e. not_six (omega (arith, e))) i) (differ (codes "size") key (λ e. not_four (omega (arith, e))) i) (differ (codes "eliciting") key (λ e. not_nine (omega (arith, e))) i) (differ (codes "in_flight") key (λ e. not_nine (omega (arith, e))) i) (differ (codes "leave") key (λ e. not_five (omega (arith, e))) i) (differ (codes "ranges") key (λ e. not_six (omega (arith, e))) i) (differ (codes "delay") key (λ e. not_five (omega (arith, e))) i) (differ (codes "limited") key (λ e. not_seven (omega (arith, e))) i) (differ (codes "kind") key (λ e. not_four (omega (arith, e))) i) (differ (codes "window") key (λ e. not_six (omega (arith, e))) i) (differ (codes "ssthresh") key (λ e. not_eight (omega (arith, e))) i) (differ (codes "bytes_in_flight") key (λ e. not_fifteen (omega (arith, e))) i) (differ (codes "latest_rtt") key (λ e. not_ten (omega (arith, e))) i) (differ (codes "min_rtt") key (λ e. not_seven (omega (arith, e))) i) (differ (codes "smoothed_rtt") key (λ e. not_twelve (omega (arith, e))) i) (differ (codes "rttvar") key (λ e. not_six (omega (arith, e))) i))
