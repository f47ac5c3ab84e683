pub mod RoundMoments
