pub mod ZeroPadding
