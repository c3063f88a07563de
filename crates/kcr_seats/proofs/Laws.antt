-- The theorem of Hall: of every relation there is a seating or there is a short list of seats, and never both.
pub use Rattle.kcr_seats.proofs.HallLemmas.{seating_or_short, not_both}
