-- Lemmas of the tests.
mod Openings
